-- Dates in digits, each with the sign of how sure it is: alone, in a range, and with an open end.
-- This project's profile.
use Rattle.std.specs.Prelude.{◌≡◌, ◌≤◌, ◌≤ℤ◌, pos, unsigned_abs, Bool, true, false, List, []}
use Rattle.std.specs.Prelude.{ℕ, ◌++◌, codes, None, Ok}
use Rattle.osn_days.specs.declared.date.Date.{Date}
use Rattle.osn_days.specs.DateText.{text_of_date}
use Rattle.osn_grammar.specs.declared.text_reading.DateOrder.{DateOrder}
use Rattle.osn_written.specs.declared.any_date.Extent.{Extent}
use Rattle.osn_written.specs.declared.any_date.Extent.TheVariants as extent
use Rattle.osn_written.specs.declared.any_date.PartialDate.{PartialDate}
use Rattle.osn_written.specs.declared.any_date.PartialDate.TheVariants as date
use Rattle.osn_grammar.specs.declared.text_reading.TextReading.{TextReading}
use Rattle.osn_grammar.specs.declared.text_reading.TextReading.TheVariants as say
use Rattle.osn_grammar.specs.Reading.{read_date}

-- a date from 0001-01-01 to 9999-12-31
pub record HasFourDigits (d : Date) : Type 0 where
  pub year_low : pos 1 ≤ℤ d.year
  pub year_high : d.year ≤ℤ pos 9999
  pub month_low : 1 ≤ d.month
  pub month_high : d.month ≤ 12
  pub day_low : 1 ≤ d.day
  pub day_high : d.day ≤ 31

-- the sign of a date that is approximate, in doubt, or both
abbrev pub sign : Bool → Bool → List ℕ
sign false false = []
sign false true = codes "?"
sign true false = codes "~"
sign true true = codes "%"

-- a date with its sign: 1731-02-11~
abbrev pub text_with_signs : Date → Bool → Bool → List ℕ
text_with_signs d approximate uncertain = text_of_date d ++ sign approximate uncertain

-- the day of the date
abbrev pub day_of_date : Date → PartialDate
day_of_date d =
    date.Day (record {
      first = unsigned_abs d.year;
      is_double = false;
      has_three_digits = false;
    }) d.month d.day

-- a date of which no more is said
abbrev pub with_sign : Extent → Bool → Bool → TextReading
with_sign e approximate uncertain = say.Date (record {
  extent = e;
  weekday = None;
  reckoning = None;
  is_approximate = approximate;
  is_uncertain = uncertain;
  is_supplied = false;
})

-- 1731-02-11~ is that day, 1731-02-11~/1731-03-01~ the range, ../1731-03-01~ not after it, and
-- 1731-02-11~/.. not before it
pub record IsSignRead (o : DateOrder) (a b : Date) (approximate uncertain : Bool) : Type 0 where
  pub day : read_date o (text_with_signs a approximate uncertain)
      ≡ Ok (with_sign (extent.On (day_of_date a)) approximate uncertain)
  pub range : read_date o
      (text_with_signs a approximate uncertain ++ (codes "/"
      ++ text_with_signs b approximate uncertain))
      ≡ Ok (with_sign (extent.FromTo (day_of_date a) (day_of_date b)) approximate uncertain)
  pub not_after : read_date o (codes "../" ++ text_with_signs b approximate uncertain)
      ≡ Ok (with_sign (extent.NotAfter (day_of_date b)) approximate uncertain)
  pub not_before : read_date o (text_with_signs a approximate uncertain ++ codes "/..")
      ≡ Ok (with_sign (extent.NotBefore (day_of_date a)) approximate uncertain)

-- as a law: all dates of four digits are read in these forms, with each sign
unfoldable pub AreDigitsRead : Type 0
AreDigitsRead =
    (o : DateOrder) (a b : Date) (approximate uncertain : Bool) → HasFourDigits a
    → HasFourDigits b → IsSignRead o a b approximate uncertain
