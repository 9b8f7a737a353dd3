-- The table of a territory says its edits.
use Rattle.std.proofs.Common.{◌≡◌, ℕ, ◌+◌, ◌<◌, pos, ℤ, Bool, true, false, cond, List, [], ◌∷◌}
use Rattle.std.proofs.Common.{◌++◌, Option, Some, None, option_map, Ok, refl, sym, ap, ◌∙◌, arith}
use Rattle.std.proofs.lemmas.Bool.Decides.{nat_tests}
use Rattle.std.proofs.lemmas.Int.{ints}
use Rattle.std.proofs.lemmas.Slice.Eq.{bytes_eq-Decides}
use Rattle.std.specs.Str.{bytes_eq}
use Rattle.toml.specs.Data.{Data, string, integer, table, Members}
use Rattle.toml.specs.Tables.{close}
use Rattle.osn_computus.specs.declared.rule.Rule.{Rule}
use Rattle.osn_computus.specs.declared.rule.Rule.TheVariants as Easter
use Rattle.osn_computus.specs.RuleWords.{rule_word, rule_named}
use Rattle.osn_days.specs.declared.calendar.Calendar.{Calendar}
use Rattle.osn_days.specs.declared.calendar.Calendar.TheVariants.{Julian, Gregorian, Swedish}
use Rattle.osn_days.specs.CalendarWords.{calendar_word, calendar_named}
use Rattle.osn_days.specs.Line.{IsDay}
use Rattle.osn_days.specs.Rules.{newest_rules}
use Rattle.osn_territory.specs.declared.period.Period.{Period}
use Rattle.osn_territory.specs.declared.regime.Regime.{Regime}
use Rattle.osn_territory.specs.declared.style.Style.{Style}
use Rattle.osn_territory.specs.StyleWords.{style_word, style_written}
use Rattle.osn_territory.specs.Territory.{TerritoryModel, regime_at}
use Rattle.osn_register.specs.declared.edit.Edit.TheVariants.{AddLand, AddChange, AddException}
use Rattle.osn_register.specs.Answer.{period_source, easter_source}
use Rattle.osn_register.specs.Plain.{AreListed}
use Rattle.osn_register.specs.Sources.{SourcesModel, IsGiven}
use Rattle.osn_register_text.specs.declared.key.Key.{Key}
use Rattle.osn_register_text.specs.declared.key.Key.TheVariants as keys
use Rattle.osn_register_text.specs.declared.key.Part.TheVariants as parts
use Rattle.osn_register_text.specs.DayField.{day_at}
use Rattle.osn_register_text.specs.Field.{Place, regime_of, items_in, items_at, unknown_key}
use Rattle.osn_register_text.specs.Field.{value_at, word_at, source_in, source_at, note_in, note_of}
use Rattle.osn_register_text.specs.TerritoryText.{Placed, is_later, change_of, changes_from}
use Rattle.osn_register_text.specs.TerritoryText.{easter_of, easters_from, opening_of}
use Rattle.osn_register_text.specs.TerritoryText.{territory_edits}
use Rattle.osn_register_text.proofs.Expressions as lines
use Rattle.osn_register_text.proofs.TerritoryNodes.{Tables, items_of, territory, change_table}
use Rattle.osn_register_text.proofs.TerritoryNodes.{easter_table, change_items, easter_items}
use Rattle.osn_register_text.proofs.TerritoryNodes.{changes_after, easters_after, territory_nodes}
use Rattle.osn_register_text.proofs.TerritoryNodes.{items_of-changes, items_of-easters}
use Rattle.osn_register_text.proofs.ReadDates.{day_in, day_key}
use Rattle.osn_register_text.proofs.TableMembers.{territory_keys, territory_name, territory_style}
use Rattle.osn_register_text.proofs.TableMembers.{territory_rule, territory_source, territory_note}
use Rattle.osn_register_text.proofs.TableMembers.{territory_changes, territory_easters, list_of}
use Rattle.osn_register_text.proofs.TableMembers.{change_keys, change_from, change_calendar}
use Rattle.osn_register_text.proofs.TableMembers.{change_style, change_rule, change_source}
use Rattle.osn_register_text.proofs.TableMembers.{change_note, easter_keys, easter_year}
use Rattle.osn_register_text.proofs.TableMembers.{easter_source_there, easter_note}

-- ---- words

calendar_back : (c : Calendar) → calendar_named (calendar_word c) ≡ Some c
calendar_back Julian = refl
calendar_back Gregorian = refl
calendar_back Swedish = refl

style_back : (s : Style) → style_written (style_word s) ≡ Some s
style_back Style.January = refl
style_back Style.Annunciation = refl
style_back Style.Nativity = refl
style_back Style.September = refl
style_back Style.Pisan = refl
style_back Style.Easter = refl

rule_back : (r : Rule) → rule_named (rule_word r) ≡ Some r
rule_back Easter.Julian = refl
rule_back Easter.Gregorian = refl

-- values of one word are one value
same_meaning : {A : Type 0} (word_of : A → List ℕ) (named : List ℕ → Option A)
    → ((x : A) → named (word_of x) ≡ Some x) → (x y : A) → bytes_eq (word_of x) (word_of y) ≡ true
    → x ≡ y
same_meaning word_of named back x y same =
    let words : word_of x ≡ word_of y = (bytes_eq-Decides (word_of x) (word_of y)).0 same in
    let both : Some x ≡ Some y = sym (back x) ∙ ap named words ∙ back y in
    cc

-- the word at a key
word_read : {A : Type 0} (at : Place) (key : Key) (named : List ℕ → Option A) (before : Option A)
    (word : List ℕ) (x : A) (ms : Members) → value_at key ms ≡ Some (string word)
    → named word ≡ Some x → word_at at key named before ms ≡ Ok x
word_read at key named before word x ms there back = rw (there, back)

-- the word at a key that may be left out, if it is the word that held before
word_kept : {A : Type 0} (at : Place) (key : Key) (named : List ℕ → Option A) (old : A)
    (word : List ℕ) (x : A) (ms : Members) (same : Bool)
    → value_at key ms ≡ cond same None (Some (string word)) → (same ≡ true → old ≡ x)
    → named word ≡ Some x → word_at at key named (Some old) ms ≡ Ok x
word_kept at key named old word x ms true there kept back = rw there (ap Ok (kept refl))
word_kept at key named old word x ms false there kept back = rw (there, back)

-- ---- sources and notes

-- each number's source is one that may be given
abbrev pub AreGiven : (ℕ → Option (List ℕ)) → Type 0
AreGiven source = (n : ℕ) → IsGiven (source n)

given_back : (at : Place) (o : Option (List ℕ)) → IsGiven o
    → source_in at (option_map string o) ≡ Ok o
given_back at None given = refl
given_back at (Some text) given = rw given

source_read : (at : Place) (o : Option (List ℕ)) (ms : Members)
    → value_at keys.Source ms ≡ option_map string o → IsGiven o → source_at at ms ≡ Ok o
source_read at o ms there given = ap (source_in at) there ∙ given_back at o given

no_note : (at : Place) (ms : Members) → value_at keys.Note ms ≡ None → note_of at ms ≡ Ok None
no_note at ms there = ap (note_in at) there

-- ---- the opening

opening : (at : Place) (name : List ℕ) (r : Regime) (o : Option (List ℕ)) (changes easters : Tables)
    → IsGiven o
    → opening_of at (close (territory (string name) (string (calendar_word r.calendar))
    (string (style_word r.style)) (string (rule_word r.rule)) o changes easters)) ≡ Ok (name, r, o)
unfolding opening_of regime_of
opening at name r o changes easters given =
    let n = string name in
    let c = string (calendar_word r.calendar) in
    let s = string (style_word r.style) in
    let u = string (rule_word r.rule) in
    let ms = close (territory n c s u o changes easters) in
    let calendar = word_read at keys.Calendar calendar_named None (calendar_word r.calendar)
    r.calendar ms refl (calendar_back r.calendar) in
    let style = word_read at keys.Style style_written None (style_word r.style) r.style ms
    (territory_style n c s u o changes easters) (style_back r.style) in
    let rule = word_read at keys.Rule rule_named None (rule_word r.rule) r.rule ms
    (territory_rule n c s u o changes easters) (rule_back r.rule) in
    let source = source_read at o ms (territory_source n c s u o changes easters) given in
    let note = no_note at ms (territory_note n c s u o changes easters) in
    rw (territory_name n c s u o changes easters, calendar, style, rule, source, note)

tables_read : (at : Place) (key : Key) (ts : Tables) → items_in at key (list_of ts)
    ≡ Ok (items_of ts)
tables_read at key None = refl
tables_read at key (Some ts) = refl

-- ---- a change

-- the members of a change
abbrev change_members : Option SourcesModel → Regime → Period → Members
change_members cited old p = close (change_table cited old p)

module _ (at : Place) (cited : Option SourcesModel) (old : Regime) (p : Period) where
  abbrev c : Bool
  c = bytes_eq (calendar_word old.calendar) (calendar_word p.regime.calendar)

  abbrev s : Bool
  s = bytes_eq (style_word old.style) (style_word p.regime.style)

  abbrev u : Bool
  u = bytes_eq (rule_word old.rule) (rule_word p.regime.rule)

  abbrev source : Option (List ℕ)
  source = period_source cited p.first

  abbrev from : Data
  from = lines.date_data p.regime.calendar p.first

  abbrev calendar : Data
  calendar = string (calendar_word p.regime.calendar)

  abbrev style : Data
  style = string (style_word p.regime.style)

  abbrev rule : Data
  rule = string (rule_word p.regime.rule)

  changed_regime : regime_of at (Some old) (change_members cited old p) ≡ Ok p.regime
  unfolding regime_of
  changed_regime =
      let ms = change_members cited old p in
      let new_calendar = word_kept at keys.Calendar calendar_named old.calendar
      (calendar_word p.regime.calendar) p.regime.calendar ms c
      (change_calendar c s u source from calendar style rule)
      (same_meaning calendar_word calendar_named calendar_back old.calendar p.regime.calendar)
      (calendar_back p.regime.calendar) in
      let new_style = word_kept at keys.Style style_written old.style (style_word p.regime.style)
      p.regime.style ms s (change_style c s u source from calendar style rule)
      (same_meaning style_word style_written style_back old.style p.regime.style)
      (style_back p.regime.style) in
      let new_rule = word_kept at keys.Rule rule_named old.rule (rule_word p.regime.rule)
      p.regime.rule ms u (change_rule c s u source from calendar style rule)
      (same_meaning rule_word rule_named rule_back old.rule p.regime.rule)
      (rule_back p.regime.rule) in
      rw (new_calendar, new_style, new_rule)

  change_day : IsDay newest_rules p.first
      → day_at at keys.From (change_members cited old p) ≡ Ok (pos p.first)
  change_day on =
      rw (
        change_from c s u source from calendar style rule,
        day_key p.regime.calendar p.first,
        day_in p.regime.calendar p.first on,
      )

  change : (before : Option ℤ) → IsDay newest_rules p.first → IsGiven source
      → is_later before (pos p.first) ≡ true
      → change_of at before old (change_members cited old p) ≡ Ok (pos p.first, p.regime, source)
  unfolding change_of
  change before on given later =
      let ms = change_members cited old p in
      let said = source_read at source ms (change_source c s u source from calendar style rule)
      given in
      let note = no_note at ms (change_note c s u source from calendar style rule) in
      rw (change_day on, changed_regime, said, note, later)

  known_keys : (n : ℕ) → unknown_key (parts.Change n) (change_members cited old p) ≡ None
  known_keys n = change_keys c s u source from calendar style rule n

-- ---- all changes

-- the edits of changes from that of a number on
abbrev pub change_edits : List ℕ → ℕ → Option SourcesModel → List Period → List Placed
change_edits code n cited [] = []
change_edits code n cited (p ∷ ps) =
    (parts.Change n, AddChange code (pos p.first) p.regime (period_source cited p.first))
    ∷ change_edits code (n + 1) cited ps

-- each period begins on a day, later than the one before
abbrev pub Ascend : ℕ → List Period → Type 0
Ascend before [] = Unit {0}
Ascend before (p ∷ ps) = (before < p.first) × IsDay newest_rules p.first × Ascend p.first ps

-- the day of the change before, if there was one
abbrev pub Follows : Option ℤ → ℕ → Type 0
Follows None day = Unit {0}
Follows (Some d) day = d ≡ pos day

later : (before : Option ℤ) (day next : ℕ) → Follows before day → day < next
    → is_later before (pos next) ≡ true
later None day next follows less = refl
later (Some d) day next follows less = rw follows (grind (arith, ints, nat_tests))

changes_read : (code : List ℕ) (n : ℕ) (cited : Option SourcesModel) (before : Option ℤ) (day : ℕ)
    (old : Regime) (ps : List Period) → AreGiven (period_source cited) → Follows before day
    → Ascend day ps
    → changes_from code n before old (change_items cited old ps)
    ≡ Ok (change_edits code n cited ps)
changes_read code n cited before day old [] given follows ascend = refl
changes_read code n cited before day old (p ∷ ps) given follows ascend =
    let at : Place = record { code = code; part = parts.Change n } in
    let said = change at cited old p before ascend.1 (given p.first)
    (later before day p.first follows ascend.0) in
    let rest = changes_read code (n + 1) cited (Some (pos p.first)) p.first p.regime ps given refl
    ascend.2 in
    rw (known_keys at cited old p n, said, rest)

-- ---- listed Easters

abbrev pub easter_edits : List ℕ → ℕ → Option SourcesModel → List (ℕ × ℕ) → List Placed
easter_edits code n cited [] = []
easter_edits code n cited (e ∷ es) =
    (parts.Easter n, AddException code (pos e.0) (pos e.1) (easter_source cited e.0))
    ∷ easter_edits code (n + 1) cited es

easter : (at : Place) (t : TerritoryModel) (cited : Option SourcesModel) (e : ℕ × ℕ)
    → IsDay newest_rules e.1 → IsGiven (easter_source cited e.0)
    → easter_of at (close (easter_table t cited e))
    ≡ Ok (pos e.0, pos e.1, easter_source cited e.0)
unfolding easter_of
easter at t cited e on given =
    let o = easter_source cited e.0 in
    let year = integer (pos e.0) in
    let date = lines.date_data (regime_at t e.1).calendar e.1 in
    let ms = close (easter_table t cited e) in
    let said = source_read at o ms (easter_source_there o year date) given in
    let note = no_note at ms (easter_note o year date) in
    let dated = (regime_at t e.1).calendar in
    rw (easter_year o year date, day_key dated e.1, day_in dated e.1 on, said, note)

easters_read : (code : List ℕ) (n : ℕ) (t : TerritoryModel) (cited : Option SourcesModel)
    (es : List (ℕ × ℕ)) → AreGiven (easter_source cited) → AreListed newest_rules es
    → easters_from code n (easter_items t cited es) ≡ Ok (easter_edits code n cited es)
easters_read code n t cited [] given listed = refl
easters_read code n t cited (e ∷ es) given listed =
    let at : Place = record { code = code; part = parts.Easter n } in
    let known = easter_keys (easter_source cited e.0) (integer (pos e.0))
    (lines.date_data (regime_at t e.1).calendar e.1) n in
    rw (
      known,
      easter at t cited e listed.1 (given e.0),
      easters_read code (n + 1) t cited es given listed.2,
    )

-- ---- a territory

abbrev pub entry_edits : List ℕ → List ℕ → TerritoryModel → Option SourcesModel → Period
    → List Period → List Placed
entry_edits code name t cited p ps =
    (parts.Territory, AddLand code name p.regime (period_source cited p.first))
    ∷ (change_edits code 1 cited ps ++ easter_edits code 1 cited t.exceptions)

pub territory_read : (code name : List ℕ) (t : TerritoryModel) (cited : Option SourcesModel)
    (p : Period) (ps : List Period) → AreGiven (period_source cited)
    → AreGiven (easter_source cited) → Ascend p.first ps → AreListed newest_rules t.exceptions
    → territory_edits code (table (close (territory_nodes name t cited (p ∷ ps))))
    ≡ Ok (entry_edits code name t cited p ps)
unfolding territory_edits
territory_read code name t cited p ps given given_easters ascend listed =
    let at : Place = record { code = code; part = parts.Territory } in
    let n = string name in
    let c = string (calendar_word p.regime.calendar) in
    let s = string (style_word p.regime.style) in
    let u = string (rule_word p.regime.rule) in
    let o = period_source cited p.first in
    let changes = changes_after None cited p.regime ps in
    let easters = easters_after None t cited t.exceptions in
    let ms = close (territory n c s u o changes easters) in
    let change_tables : items_at at keys.Changes ms ≡ Ok (items_of changes) =
    ap (items_in at keys.Changes) (territory_changes n c s u o changes easters)
    ∙ tables_read at keys.Changes changes in
    let easter_tables : items_at at keys.Easters ms ≡ Ok (items_of easters) =
    ap (items_in at keys.Easters) (territory_easters n c s u o changes easters)
    ∙ tables_read at keys.Easters easters in
    let changed : changes_from code 1 None p.regime (items_of changes)
    ≡ Ok (change_edits code 1 cited ps) =
    ap (changes_from code 1 None p.regime) (items_of-changes None cited p.regime ps)
    ∙ changes_read code 1 cited None p.first p.regime ps given tt ascend in
    let listing : easters_from code 1 (items_of easters)
    ≡ Ok (easter_edits code 1 cited t.exceptions) =
    ap (easters_from code 1) (items_of-easters None t cited t.exceptions)
    ∙ easters_read code 1 t cited t.exceptions given_easters listed in
    rw (
      territory_keys n c s u o changes easters,
      opening at name p.regime o changes easters (given p.first),
      change_tables,
      changed,
      easter_tables,
      listing,
    )
