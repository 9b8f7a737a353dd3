-- An edit that is lawful is read back from its line.
use Rattle.std.proofs.Common.{◌≡◌, ℕ, ◌<◌, ◌≤◌, ◌&&◌, Bool, true}
use Rattle.std.proofs.Common.{false}
use Rattle.std.proofs.Common.{nat_le, ◌+◌, List, [], ◌∷◌, length, codes}
use Rattle.std.proofs.Common.{Option, None, Some, Ok, refl}
use Rattle.std.proofs.Common.{arith}
use Rattle.std.proofs.Common.{leb-true, ◌||◌, ◌⊎◌, inl, inr}
use Rattle.std.specs.List.{list_all}
use Rattle.std.proofs.lemmas.Bool.{and_parts, lt-ltb}
use Rattle.std.proofs.lemmas.Str.{IsUtf8-from_is_utf8}
use Rattle.json.proofs.Printed.Utf8.{IsUtf8-are_ascii, are_ascii}
use Rattle.serde_json.specs.Data.{Data, Members, string}
use Rattle.osn_days.specs.declared.calendar.Calendar.{Calendar}
use Rattle.osn_days.specs.declared.calendar.Calendar.TheVariants as calendars
use Rattle.osn_days.specs.Rules.{newest_rules}
use Rattle.osn_days.specs.CalendarWords.{calendar_word, calendar_named}
use Rattle.osn_computus.specs.declared.rule.Rule.{Rule}
use Rattle.osn_computus.specs.declared.rule.Rule.TheVariants as rules
use Rattle.osn_computus.specs.RuleWords.{rule_word, rule_named}
use Rattle.osn_territory.specs.declared.regime.Regime.{Regime}
use Rattle.osn_territory.specs.declared.style.Style.{Style}
use Rattle.osn_territory.specs.declared.style.Style.TheVariants as styles
use Rattle.osn_territory.specs.StyleWords.{style_word, style_named}
use Rattle.osn_register.specs.Code.{is_code, is_name, is_code_byte, is_capital}
use Rattle.osn_register.specs.Sources.{IsGiven, is_source}
use Rattle.osn_request.specs.Json.{source_member}
use Rattle.osn_request.specs.declared.member.Member.TheVariants as members
use Rattle.osn_request.specs.Field.{text_at, regime_of}
use Rattle.osn_files.proofs.TextFacts.{Fits, Fits-string, Fit, Fit-member}

Fits-wider : (d : Data) (m n : ℕ) → Fits d m → m ≤ n → Fits d n
Fits-wider d m n h more = record {
  short = omega (arith, h.short);
  utf8 = h.utf8;
  no_feed = h.no_feed;
  numbers = h.numbers;
  shallow = h.shallow;
}

or_cases : (a b : Bool) → (a || b) ≡ true → (a ≡ true) ⊎ (b ≡ true)
or_cases true b h = inl refl
or_cases false b h = inr h

code_byte-low : (b : ℕ) → is_code_byte b ≡ true → b < 128
code_byte-low b h = elim (or_cases (is_capital b) (nat_le 48 b && nat_le b 57) h) [
  | inl capital ↦ omega (arith, leb-true b 90 (and_parts _ _ capital).1)
  | inr digit ↦ omega (arith, leb-true b 57 (and_parts _ _ digit).1)
]

calendar_named-word : (c : Calendar) → calendar_named (calendar_word c) ≡ Some c
calendar_named-word calendars.Julian = refl
calendar_named-word calendars.Gregorian = refl
calendar_named-word calendars.Swedish = refl

style_named-word : (s : Style) → style_named newest_rules (style_word s) ≡ Some s
style_named-word styles.January = refl
style_named-word styles.Annunciation = refl
style_named-word styles.Nativity = refl
style_named-word styles.September = refl
style_named-word styles.Pisan = refl
style_named-word styles.Easter = refl

rule_named-word : (r : Rule) → rule_named (rule_word r) ≡ Some r
rule_named-word rules.Julian = refl
rule_named-word rules.Gregorian = refl

-- a regime is read by its words
pub regime_of-words : (d : Data) (r : Regime)
    → text_at members.Calendar d ≡ Ok (calendar_word r.calendar)
    → text_at members.Style d ≡ Ok (style_word r.style)
    → text_at members.Rule d ≡ Ok (rule_word r.rule) → regime_of newest_rules d ≡ Ok r
unfolding regime_of
regime_of-words d r calendar style rule = rw (
  calendar,
  calendar_named-word r.calendar,
  style,
  style_named-word r.style,
  rule,
  rule_named-word r.rule,
) refl

-- a word is short and ASCII
pub Fits-word : (w : List ℕ) → are_ascii w ≡ true → length w ≤ 14 → Fits (string w) 90
Fits-word w ascii short = Fits-wider _ _ _ (Fits-string w (IsUtf8-are_ascii w ascii)) (omega arith)

pub Fits-calendar : (c : Calendar) → Fits (string (calendar_word c)) 90
Fits-calendar calendars.Julian = Fits-word (codes "julian") refl (omega arith)
Fits-calendar calendars.Gregorian = Fits-word (codes "gregorian") refl (omega arith)
Fits-calendar calendars.Swedish = Fits-word (codes "swedish") refl (omega arith)

pub Fits-style : (s : Style) → Fits (string (style_word s)) 90
Fits-style styles.January = Fits-word (codes "january") refl (omega arith)
Fits-style styles.Annunciation = Fits-word (codes "annunciation") refl (omega arith)
Fits-style styles.Nativity = Fits-word (codes "nativity") refl (omega arith)
Fits-style styles.September = Fits-word (codes "september") refl (omega arith)
Fits-style styles.Pisan = Fits-word (codes "pisan") refl (omega arith)
Fits-style styles.Easter = Fits-word (codes "easter") refl (omega arith)

pub Fits-rule : (r : Rule) → Fits (string (rule_word r)) 90
Fits-rule rules.Julian = Fits-word (codes "julian") refl (omega arith)
Fits-rule rules.Gregorian = Fits-word (codes "gregorian") refl (omega arith)

all_ascii : (bs : List ℕ) → list_all is_code_byte bs ≡ true → are_ascii bs ≡ true
all_ascii [] h = refl
all_ascii (b ∷ bs) h =
    let p = and_parts _ _ h in
    let low : b < 128 = code_byte-low b p.0 in
    rw (lt-ltb b 128 low) (all_ascii bs p.1)

-- a code is short and ASCII
pub Fits-code : (code : List ℕ) → is_code code ≡ true → Fits (string code) 90
Fits-code code h =
    let p = and_parts _ _ h in
    let short : length code ≤ 8 = leb-true _ _ (and_parts _ _ p.0).1 in
    let ascii = all_ascii code (and_parts _ _ p.1).1 in
    Fits-wider _ _ _ (Fits-string code (IsUtf8-are_ascii code ascii)) (omega arith)

-- a name is short and UTF-8
pub Fits-name : (name : List ℕ) → is_name name ≡ true → Fits (string name) 400
Fits-name name h =
    let p = and_parts _ _ h in
    let short : length name ≤ 64 = leb-true _ _ (and_parts _ _ p.0).1 in
    let utf8 = IsUtf8-from_is_utf8 name (and_parts _ _ p.1).1 in
    Fits-wider _ _ _ (Fits-string name utf8) (omega arith)

Fit-wider : (ms : Members) (m n : ℕ) → Fit ms m → m ≤ n → Fit ms n
Fit-wider ms m n h more = record {
  short = λ later. omega (arith, h.short later, more);
  utf8 = h.utf8;
  no_feed = h.no_feed;
  numbers = h.numbers;
  shallow = h.shallow;
}

-- a source has at most 1,000 bytes of UTF-8
Fits-source : (source : List ℕ) → is_source source ≡ true → Fits (string source) 6002
Fits-source source h =
    let p = and_parts _ _ h in
    let short : length source ≤ 1000 = leb-true _ _ (and_parts _ _ p.0).1 in
    let utf8 = IsUtf8-from_is_utf8 source (and_parts _ _ p.1).1 in
    Fits-wider _ _ _ (Fits-string source utf8) (omega arith)

-- a source before other members, if one is given
pub Fit-source : (source : Option (List ℕ)) (ms : Members) (n : ℕ) → IsGiven source → Fit ms n
    → Fit (source_member source ms) (6042 + n)
Fit-source None ms n given rest = Fit-wider ms n (6042 + n) rest (omega arith)
Fit-source (Some source) ms n given rest =
    Fit-member (codes "source") _ ms _ n refl (Fits-source source given) rest
