-- The date of a day, as it is written, is read as that day.
use Rattle.std.proofs.Common.{◌≡◌, ℕ, zero, suc, ◌<◌, ◌≤◌, ◌-◌, ◌^◌, pos, unsigned_abs, true, false}
use Rattle.std.proofs.Common.{◌==◌, List, [], ◌∷◌, ◌++◌, length, replicate, cond, Some, None, Ok}
use Rattle.std.proofs.Common.{refl, ap, ◌∙◌, arith}
use Rattle.std.proofs.lemmas.Bool.{le-leb, and_parts}
use Rattle.std.proofs.lemmas.Bool.Decides.{nat_tests}
use Rattle.std.proofs.lemmas.Fmt.{decimal_is_IsNumeral}
use Rattle.std.proofs.lemmas.Int.{ints}
use Rattle.std.proofs.lemmas.Str.Parse.{numerals_by_value, tells_all_ascii_digits}
use Rattle.std.specs.Char.{is_ascii_digit}
use Rattle.std.specs.Fmt.{decimal}
use Rattle.std.specs.Str.{all_ascii_digits}
use Rattle.std.specs.Str.Parse.{digits_value}
use Rattle.osn_days.specs.declared.date.Date.{Date}
use Rattle.osn_days.specs.declared.calendar.Calendar.{Calendar}
use Rattle.osn_days.specs.declared.calendar.Calendar.TheVariants.{Julian, Gregorian, Swedish}
use Rattle.osn_days.specs.Chain.{date_of}
use Rattle.osn_days.specs.DateText.{at_least, date_digits, date_text, text_of_date}
use Rattle.osn_days.specs.Line.{IsDay}
use Rattle.osn_days.specs.Rules.{newest_rules}
use Rattle.osn_days.proofs.DateDigits.{two_digits, four_digits}
use Rattle.osn_days.proofs.LineFacts.{IsLineDate, date_of_line, day_of_date}
use Rattle.osn_written.specs.WrittenDate.{number_of, parts_at}
use Rattle.osn_register_text.specs.DayField as field
use Rattle.osn_register_text.proofs.Expressions.{date_data}

zeros_value : (k : ℕ) (ds : List ℕ) → digits_value 10 (replicate k 48 ++ ds) ≡ digits_value 10 ds
zeros_value zero ds = refl
zeros_value (suc k) ds = zeros_value k ds

zeros_digits : (k : ℕ) (ds : List ℕ) → all_ascii_digits ds ≡ true
    → all_ascii_digits (replicate k 48 ++ ds) ≡ true
zeros_digits zero ds digits = digits
zeros_digits (suc k) ds digits = zeros_digits k ds digits

padded_digits : (w n : ℕ) → n < 10 ^ 9 → all_ascii_digits (at_least w n) ≡ true
padded_digits w n small =
    let own = numerals_by_value (λ ds. all_ascii_digits ds ≡ true) tells_all_ascii_digits in
    let numeral = decimal_is_IsNumeral n (omega (arith, small)) in
    zeros_digits (w - length (decimal n)) (decimal n) (own.from (decimal n) numeral.0.1)

padded_value : (w n : ℕ) → n < 10 ^ 9 → digits_value 10 (at_least w n) ≡ n
padded_value w n small =
    zeros_value (w - length (decimal n)) (decimal n)
    ∙ (decimal_is_IsNumeral n (omega (arith, small))).1

-- a number of one to nine digits
number : (w n : ℕ) → n < 10 ^ 9 → length (at_least w n) ≡ w → 1 ≤ w → w ≤ 9
    → number_of (at_least w n) ≡ Some n
number w n small count some few =
    rw (count, le-leb 1 w some, le-leb w 9 few, padded_digits w n small, padded_value w n small)

year : (y : ℕ) → y < 10000 → field.year_of (at_least 4 y) ≡ Some y
year y high =
    let count : length (at_least 4 y) ≡ 4 = ap length (four_digits y high) in
    ap (λ b. cond b (number_of (at_least 4 y)) None)
    (le-leb 3 (length (at_least 4 y)) (omega (arith, count)))
    ∙ number 4 y (omega (arith, high)) count (omega arith) (omega arith)

short : (n : ℕ) → n < 100 → field.short_number_of (at_least 2 n) ≡ Some n
short n high =
    let count : length (at_least 2 n) ≡ 2 = ap length (two_digits n high) in
    ap (λ b. cond b (number_of (at_least 2 n)) None)
    (le-leb (length (at_least 2 n)) 2 (omega (arith, count)))
    ∙ number 2 n (omega (arith, high)) count (omega arith) (omega arith)

no_dash : (c : ℕ) → is_ascii_digit c ≡ true → (c == 45) ≡ false
no_dash c digit = grind (arith, nat_tests)

-- digits end at a dash
split : (ds rest : List ℕ) → all_ascii_digits ds ≡ true
    → parts_at 45 (ds ++ 45 ∷ rest) ≡ Some (ds, rest)
split [] rest digits = refl
split (c ∷ cs) rest digits =
    let (here, more) = and_parts (is_ascii_digit c) (all_ascii_digits cs) digits in
    rw (no_dash c here, split cs rest more)

date : (y m d : ℕ) → y < 10000 → m < 100 → d < 100
    → field.date_of (date_digits y m d) ≡ Some (record { year = pos y; month = m; day = d })
date y m d hy hm hd =
    rw (
      split (at_least 4 y) (at_least 2 m
          ++ 45 ∷ at_least 2 d) (padded_digits 4 y (omega (arith, hy))),
      split (at_least 2 m) (at_least 2 d) (padded_digits 2 m (omega (arith, hm))),
      year y hy,
      short m hm,
      short d hd,
    )

-- a date of the line
line_date : (date : Date) → IsLineDate date → field.date_of (text_of_date date) ≡ Some date
unfolding date_text
line_date found is =
    let same : pos (unsigned_abs found.year) ≡ found.year = omega (arith, ints, is.year_low) in
    date (unsigned_abs found.year) found.month found.day
    (omega (arith, ints, is.year_low, is.year_high)) (omega (arith, is.month_high))
    (omega (arith, is.day_high))
    ∙ ap (λ y. Some (record { year = y; month = found.month; day = found.day })) same

day_with : (c : Calendar) (day : ℕ) → IsDay newest_rules day
    → field.day_with c (date_of c day) ≡ Some (pos day)
day_with c day on = rw (← day_of_date newest_rules c day on)

-- the day of a date's text in its calendar
text_day : (c : Calendar) (day : ℕ) → IsDay newest_rules day
    → field.day_of_text c (text_of_date (date_of c day)) ≡ Ok (pos day)
text_day c day on =
    rw (line_date (date_of c day) (date_of_line c day on), day_with c day on)

-- the key of a date's table is one of a day
pub day_key : (c : Calendar) (day : ℕ) → field.unknown_day_key (date_data c day) ≡ None
day_key Julian day = refl
day_key Gregorian day = refl
day_key Swedish day = refl

-- the day of a date's table
pub day_in : (c : Calendar) (day : ℕ) → IsDay newest_rules day
    → field.day_in (date_data c day) ≡ Ok (pos day)
day_in Julian day on = text_day Julian day on
day_in Gregorian day on = text_day Gregorian day on
day_in Swedish day on = text_day Swedish day on
