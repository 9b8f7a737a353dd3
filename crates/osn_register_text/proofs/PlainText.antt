-- Texts of letters, digits and hyphens: TOML writes them as they are, as keys and between quotes.
use Rattle.std.proofs.Common.{◌≡◌, ℕ, ◌+◌, ◌/◌, ◌%◌, ◌<◌, Bool, true, false, ◌&&◌, ◌==◌, nat_lt}
use Rattle.std.proofs.Common.{slice_index, List, [], ◌∷◌, ◌++◌, length, codes, unsigned_abs, refl}
use Rattle.std.proofs.Common.{ap, arith}
use Rattle.std.proofs.lemmas.Bool.{and_parts}
use Rattle.std.proofs.lemmas.Bool.Decides.{nat_tests}
use Rattle.std.proofs.lemmas.Int.{ints}
use Rattle.std.specs.List.{list_all, list_any}
use Rattle.toml_parser.specs.Lexical.{is_bare}
use Rattle.toml_writer.specs.Text.{string_text, key_text, escaped, needs_escape, encoding_of}
use Rattle.toml_writer.specs.Text.{is_control, has}
use Rattle.toml_writer.proofs.Escapes.{quotes_after_other}
use Rattle.osn_computus.specs.declared.rule.Rule.{Rule}
use Rattle.osn_computus.specs.declared.rule.Rule.TheVariants as Easter
use Rattle.osn_computus.specs.RuleWords.{rule_word}
use Rattle.osn_days.specs.declared.calendar.Calendar.{Calendar}
use Rattle.osn_days.specs.declared.calendar.Calendar.TheVariants.{Julian, Gregorian, Swedish}
use Rattle.osn_days.specs.CalendarWords.{calendar_word}
use Rattle.osn_days.specs.Chain.{date_of}
use Rattle.osn_days.specs.DateText.{date_digits, date_text, text_of_date}
use Rattle.osn_days.specs.Line.{IsDay}
use Rattle.osn_days.specs.Rules.{newest_rules}
use Rattle.osn_days.proofs.DateDigits.{date_digits-digits}
use Rattle.osn_days.proofs.LineFacts.{date_of_line}
use Rattle.osn_territory.specs.declared.style.Style.{Style}
use Rattle.osn_territory.specs.StyleWords.{style_word}
use Rattle.osn_register.specs.Code.{is_capital, is_code_byte, has_length, is_code}

-- ---- a byte

not_control : (c : ℕ) → is_bare c ≡ true → is_control c ≡ false
not_control c bare = grind (arith, nat_tests)

not_backslash : (c : ℕ) → is_bare c ≡ true → (c == 92) ≡ false
not_backslash c bare = grind (arith, nat_tests)

not_quote : (c : ℕ) → is_bare c ≡ true → (c == 34) ≡ false
not_quote c bare = grind (arith, nat_tests)

not_newline : (c : ℕ) → is_bare c ≡ true → (c == 10) ≡ false
not_newline c bare = grind (arith, nat_tests)

not_escaped : (c : ℕ) → is_bare c ≡ true → needs_escape false 0 c ≡ false
unfolding needs_escape
not_escaped c bare = grind (arith, nat_tests)

bare_code_byte : (c : ℕ) → is_code_byte c ≡ true → is_bare c ≡ true
bare_code_byte c code = grind (arith, nat_tests)

-- ---- a text

none : (p : ℕ → Bool) (s : List ℕ) → ((c : ℕ) → is_bare c ≡ true → p c ≡ false)
    → list_all is_bare s ≡ true → list_any p s ≡ false
none p [] not_one all = refl
none p (c ∷ cs) not_one all =
    let (here, more) = and_parts (is_bare c) (list_all is_bare cs) all in
    rw (not_one c here) (none p cs not_one more)

escaped_plain : (s : List ℕ) → list_all is_bare s ≡ true → escaped false 0 s ≡ s
unfolding escaped
escaped_plain [] all = refl
escaped_plain (c ∷ cs) all =
    let (here, more) = and_parts (is_bare c) (list_all is_bare cs) all in
    rw (not_escaped c here, quotes_after_other false 0 c (not_quote c here))
    (ap (λ t. c ∷ t) (escaped_plain cs more))

-- a plain text as a string
pub string_text-plain : (s : List ℕ) → list_all is_bare s ≡ true
    → string_text s ≡ codes "\"" ++ (s ++ codes "\"")
unfolding string_text encoding_of
string_text-plain s all =
    let no_control : list_any is_control s ≡ false = none is_control s not_control all in
    let no_backslash : has 92 s ≡ false = none (λ c. c == 92) s not_backslash all in
    let no_quote : has 34 s ≡ false = none (λ c. c == 34) s not_quote all in
    let no_newline : has 10 s ≡ false = none (λ c. c == 10) s not_newline all in
    rw (no_control, no_backslash, no_quote, no_newline, escaped_plain s all)

all_bare : (s : List ℕ) → list_all is_code_byte s ≡ true → list_all is_bare s ≡ true
all_bare [] all = refl
all_bare (c ∷ cs) all =
    let (here, more) = and_parts (is_code_byte c) (list_all is_code_byte cs) all in
    rw (bare_code_byte c here) (all_bare cs more)

-- a code as a key
pub key_text-code : (code : List ℕ) → is_code code ≡ true → key_text code ≡ code
unfolding key_text
key_text-code code is =
    let (size, bytes) =
    and_parts (has_length 2 8 code)
    (is_capital (slice_index code 0) && list_all is_code_byte code) is in
    let (capital, all) =
    and_parts (is_capital (slice_index code 0)) (list_all is_code_byte code) bytes in
    let some : nat_lt 0 (length code) ≡ true = grind (arith, nat_tests) in
    rw (some, all_bare code all)

-- ---- the words

pub bare_calendar : (c : Calendar) → list_all is_bare (calendar_word c) ≡ true
bare_calendar Julian = refl
bare_calendar Gregorian = refl
bare_calendar Swedish = refl

pub bare_style : (s : Style) → list_all is_bare (style_word s) ≡ true
bare_style Style.January = refl
bare_style Style.Annunciation = refl
bare_style Style.Nativity = refl
bare_style Style.September = refl
bare_style Style.Pisan = refl
bare_style Style.Easter = refl

pub bare_rule : (r : Rule) → list_all is_bare (rule_word r) ≡ true
bare_rule Easter.Julian = refl
bare_rule Easter.Gregorian = refl

-- a calendar's word as a key
pub key_text-calendar : (c : Calendar) → key_text (calendar_word c) ≡ calendar_word c
unfolding key_text
key_text-calendar Julian = refl
key_text-calendar Gregorian = refl
key_text-calendar Swedish = refl

-- ---- dates

bare_digit : (n : ℕ) → n < 10 → is_bare (48 + n) ≡ true
bare_digit n low = grind (arith, nat_tests)

bare_digits : (y m d : ℕ) → y < 10000 → m < 100 → d < 100
    → list_all is_bare (date_digits y m d) ≡ true
bare_digits y m d hy hm hd =
    rw (
      date_digits-digits y m d hy hm hd,
      bare_digit (y / 10 / 10 / 10) (omega arith),
      bare_digit (y / 10 / 10 % 10) (omega arith),
      bare_digit (y / 10 % 10) (omega arith),
      bare_digit (y % 10) (omega arith),
      bare_digit (m / 10) (omega arith),
      bare_digit (m % 10) (omega arith),
      bare_digit (d / 10) (omega arith),
      bare_digit (d % 10) (omega arith),
    )

-- the text of a day's date
pub bare_date : (c : Calendar) (day : ℕ) → IsDay newest_rules day
    → list_all is_bare (text_of_date (date_of c day)) ≡ true
unfolding date_text
bare_date c day on =
    let date = date_of c day in
    let found = date_of_line c day on in
    bare_digits (unsigned_abs date.year) date.month date.day
    (omega (arith, ints, found.year_low, found.year_high)) (omega (arith, found.month_high))
    (omega (arith, found.day_high))
