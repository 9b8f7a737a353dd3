-- The text of a change has these lines, and so have those of its parts.
use Rattle.std.proofs.Common.{◌≡◌, ℕ, true, false, List, [], ◌∷◌, ◌++◌, map, Option, Some, None}
use Rattle.std.proofs.Common.{codes, refl, ap, append_assoc, inl, inr}
use Rattle.std.specs.List.{list_all}
use Rattle.std.specs.Str.{bytes_eq}
use Rattle.std.proofs.lemmas.Bool.{cases_Bool}
use Rattle.std.proofs.lemmas.List.{map-append}
use Rattle.toml_parser.specs.Lexical.{is_bare}
use Rattle.toml_writer.specs.Text.{key_text, string_text}
use Rattle.toml.specs.Data.{string}
use Rattle.toml.specs.Tables.{key_value, array_table}
use Rattle.toml.specs.Text.{IsValueText, IsLineText}
use Rattle.osn_computus.specs.RuleWords.{rule_word}
use Rattle.osn_days.specs.declared.calendar.Calendar.{Calendar}
use Rattle.osn_days.specs.CalendarWords.{calendar_word}
use Rattle.osn_days.specs.Chain.{date_of}
use Rattle.osn_days.specs.DateText.{text_of_date}
use Rattle.osn_days.specs.Line.{IsDay}
use Rattle.osn_days.specs.Rules.{newest_rules}
use Rattle.osn_territory.specs.declared.period.Period.{Period}
use Rattle.osn_territory.specs.declared.regime.Regime.{Regime}
use Rattle.osn_territory.specs.StyleWords.{style_word}
use Rattle.osn_register.specs.Answer.{period_source}
use Rattle.osn_register.specs.Code.{is_code}
use Rattle.osn_register.specs.Sources.{SourcesModel}
use Rattle.osn_register_text.specs.WrittenText.{word_line, changed_line, date_table, source_line}
use Rattle.osn_register_text.specs.WrittenText.{regime_text, changed_lines, beginning_text}
use Rattle.osn_register_text.specs.WrittenText.{change_text, changes_text}
use Rattle.osn_register_text.proofs.Expressions as lines
use Rattle.osn_register_text.proofs.JoinedLines.{IsWritten, one, written-append, along}
use Rattle.osn_register_text.proofs.PlainText.{string_text-plain, key_text-code, key_text-calendar}
use Rattle.osn_register_text.proofs.PlainText.{bare_calendar, bare_style, bare_rule, bare_date}

-- ---- keys

key_text-source : key_text (codes "source") ≡ codes "source"
unfolding key_text
key_text-source = refl

key_text-words : (key_text (codes "calendar") ≡ codes "calendar")
    × (key_text (codes "style") ≡ codes "style") × (key_text (codes "rule") ≡ codes "rule")
unfolding key_text
key_text-words = (refl, refl, refl)

pub key_text-lists : (key_text (codes "changes") ≡ codes "changes")
    × (key_text (codes "easters") ≡ codes "easters")
unfolding key_text
key_text-lists = (refl, refl)

pub key_text-members : (key_text (codes "from") ≡ codes "from") × (key_text (codes "year")
    ≡ codes "year")
    × (key_text (codes "date") ≡ codes "date")
unfolding key_text
key_text-members = (refl, refl, refl)

-- ---- lines

word : (key text : List ℕ) → key_text key ≡ key → list_all is_bare text ≡ true
    → IsLineText false true ([], key) (key_value (string text)) (word_line key text)
unfolding word_line
word key text bare plain =
    (string_text text, rw (bare, string_text-plain text plain) (simp append_assoc), refl)

date : (c : Calendar) (day : ℕ) → IsDay newest_rules day
    → IsValueText false (lines.date_data c day) (date_table c day)
unfolding date_table
date c day on =
    let text = text_of_date (date_of c day) in (
      codes " " ++ (calendar_word c ++ (codes " = " ++ (string_text text ++ codes " }"))),
      rw (string_text-plain text (bare_date c day on)) (simp append_assoc),
      (string_text text, codes " }", rw (key_text-calendar c) refl, refl, refl, refl),
    )

pub dated : (key : List ℕ) (c : Calendar) (day : ℕ) → key_text key ≡ key → IsDay newest_rules day
    → IsLineText false true ([], key) (key_value (lines.date_data c day))
    (key ++ (codes " = " ++ (date_table c day ++ codes "\n")))
dated key c day bare on = (date_table c day, rw bare refl, date c day on)

pub regime_written : (r : Regime) → IsWritten true (lines.regime_pairs r) (regime_text r)
unfolding regime_text
regime_written r =
    let keys = key_text-words in
    let calendar = word (codes "calendar") (calendar_word r.calendar) keys.0
    (bare_calendar r.calendar) in
    let style = word (codes "style") (style_word r.style) keys.1 (bare_style r.style) in
    let rule = word (codes "rule") (rule_word r.rule) keys.2 (bare_rule r.rule) in (
      _,
      _,
      refl,
      calendar,
      (
        _,
        _,
        refl,
        style,
        one true (lines.pair (codes "rule") (string (rule_word r.rule))) _ rule,
      ),
    )

changed : (key before text : List ℕ) → key_text key ≡ key → list_all is_bare text ≡ true
    → IsWritten true (lines.changed_pair key before text) (changed_line key before text)
unfolding changed_line
changed key before text bare plain =
    elim (cases_Bool (bytes_eq before text)) [
      | inl same ↦ rw same refl
      | inr other ↦ rw other (one true (lines.pair key (string text)) _ (word key text bare plain))
    ]

changes_written : (before r : Regime)
    → IsWritten true (lines.changed_pairs before r) (changed_lines before r)
unfolding changed_lines
changes_written before r =
    let keys = key_text-words in
    written-append _ _ _ _
    (changed (codes "calendar") (calendar_word before.calendar) (calendar_word r.calendar) keys.0
    (bare_calendar r.calendar))
    (written-append _ _ _ _
    (changed (codes "style") (style_word before.style) (style_word r.style) keys.1
    (bare_style r.style))
    (changed (codes "rule") (rule_word before.rule) (rule_word r.rule) keys.2 (bare_rule r.rule)))

pub source_written : (o : Option (List ℕ)) → IsWritten true (lines.source_pair o) (source_line o)
unfolding source_line
source_written None = refl
source_written (Some source) =
    one true (lines.pair (codes "source") (string source)) _
    (string_text source, rw key_text-source refl, refl)

-- the header of the next table in a list of a territory
abbrev pub header_text : List ℕ → List ℕ → List ℕ
header_text code key = codes "\n[[" ++ (code ++ (codes "." ++ (key ++ codes "]]\n")))

pub next_in : (code key : List ℕ) → is_code code ≡ true → key_text key ≡ key
    → IsLineText false true (code ∷ [], key) array_table (header_text code key)
next_in code key is bare = rw (key_text-code code is, bare) (simp append_assoc)

-- ---- a change

beginning : (code : List ℕ) (p : Period) → is_code code ≡ true → IsDay newest_rules p.first
    → IsWritten true (lines.under code (lines.next_in (codes "changes"))
    ∷ lines.pair (codes "from") (lines.date_data p.regime.calendar p.first) ∷ [])
    (beginning_text code p)
unfolding beginning_text
beginning code p is on =
    let date_line = codes "from = " ++ (date_table p.regime.calendar p.first ++ codes "\n") in (
      header_text code (codes "changes"),
      date_line,
      simp append_assoc refl,
      next_in code (codes "changes") is key_text-lists.0,
      one true (lines.pair (codes "from") (lines.date_data p.regime.calendar p.first)) date_line
          (dated (codes "from") p.regime.calendar p.first key_text-members.0 on),
    )

-- pairs are the same below any header
under_changed : (code key before text : List ℕ)
    → map (lines.under code) (lines.changed_pair key before text)
    ≡ lines.changed_pair key before text
under_changed code key before text =
    elim (cases_Bool (bytes_eq before text)) [
      | inl same ↦ rw same
      | inr other ↦ rw other
    ]

under_changes : (code : List ℕ) (before r : Regime)
    → map (lines.under code) (lines.changed_pairs before r) ≡ lines.changed_pairs before r
under_changes code before r =
    let calendar = lines.changed_pair (codes "calendar") (calendar_word before.calendar)
    (calendar_word r.calendar) in
    let style = lines.changed_pair (codes "style") (style_word before.style) (style_word r.style) in
    let rule = lines.changed_pair (codes "rule") (rule_word before.rule) (rule_word r.rule) in
    rw (
      map-append (lines.under code) calendar (style ++ rule),
      map-append (lines.under code) style rule,
      under_changed code (codes "calendar") (calendar_word before.calendar)
          (calendar_word r.calendar),
      under_changed code (codes "style") (style_word before.style) (style_word r.style),
      under_changed code (codes "rule") (rule_word before.rule) (rule_word r.rule),
    )

pub under_source : (code : List ℕ) (o : Option (List ℕ))
    → map (lines.under code) (lines.source_pair o) ≡ lines.source_pair o
under_source code None = refl
under_source code (Some source) = refl

change_written : (code : List ℕ) (cited : Option SourcesModel) (before : Regime) (p : Period)
    → is_code code ≡ true → IsDay newest_rules p.first
    → IsWritten true (map (lines.under code) (lines.change cited before p))
    (change_text code cited before p)
unfolding change_text
change_written code cited before p is on =
    let begun = lines.under code (lines.next_in (codes "changes"))
    ∷ lines.pair (codes "from") (lines.date_data p.regime.calendar p.first) ∷ [] in
    let changed = lines.changed_pairs before p.regime in
    let source = period_source cited p.first in
    let below = lines.under code in
    let same : map below (changed ++ lines.source_pair source)
    ≡ changed ++ lines.source_pair source =
    rw (
      map-append below changed (lines.source_pair source),
      under_changes code before p.regime,
      under_source code source,
    ) in
    along (begun ++ map below (changed ++ lines.source_pair source))
    (begun ++ (changed ++ lines.source_pair source)) (change_text code cited before p)
    (ap (λ es. begun ++ es) same)
    (written-append begun (changed ++ lines.source_pair source) (beginning_text code p)
    (changed_lines before p.regime ++ source_line source) (beginning code p is on)
    (written-append changed (lines.source_pair source) (changed_lines before p.regime)
    (source_line source) (changes_written before p.regime) (source_written source)))

-- every one of the periods begins on a day
abbrev pub AreDays : List Period → Type 0
AreDays [] = Unit {0}
AreDays (p ∷ ps) = IsDay newest_rules p.first × AreDays ps

pub all_changes_written : (code : List ℕ) (cited : Option SourcesModel) (before : Regime)
    (ps : List Period) → is_code code ≡ true → AreDays ps
    → IsWritten true (map (lines.under code) (lines.changes cited before ps))
    (changes_text code cited before ps)
unfolding changes_text
all_changes_written code cited before [] is on = refl
all_changes_written code cited before (p ∷ ps) is on =
    let this = lines.next_in (codes "changes") ∷ lines.change_pairs cited before p in
    let rest = lines.changes cited p.regime ps in
    let below = lines.under code in
    along (map below (this ++ rest)) (map below this
    ++ map below rest) (changes_text code cited before (p ∷ ps))
    (map-append below this rest)
    (written-append (map below this) (map below rest) (change_text code cited before p)
    (changes_text code cited p.regime ps) (change_written code cited before p is on.0)
    (all_changes_written code cited p.regime ps is on.1))
