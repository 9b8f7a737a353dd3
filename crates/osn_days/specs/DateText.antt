-- Dates as they are written: this project's profile.
use Rattle.std.specs.Prelude.{ℕ, ◌-◌, ℤ, unsigned_abs, List, ◌++◌, length, replicate, codes}
use Rattle.std.specs.Fmt.{decimal}
use Rattle.osn_days.specs.declared.date.Date.{Date}

-- a number's digits, after as many zeros as bring them to the length
abbrev pub at_least : ℕ → ℕ → List ℕ
at_least width n = replicate (width - length (decimal n)) 48 ++ decimal n

-- the year in at least four digits, the month in two and the day in two
abbrev pub date_digits : ℕ → ℕ → ℕ → List ℕ
date_digits year month day =
    at_least 4 year ++ (codes "-" ++ (at_least 2 month ++ (codes "-" ++ at_least 2 day)))

-- a date. No year is negative, so a year's digits are those of its absolute value
unfoldable pub date_text : ℤ → ℕ → ℕ → List ℕ
date_text year month day = date_digits (unsigned_abs year) month day

-- the date of a day in a calendar
abbrev pub text_of_date : Date → List ℕ
text_of_date date = date_text date.year date.month date.day
