-- The forms in which a day, a month or a year is written. This project's profile.
use Rattle.std.specs.Prelude.{ℕ, nat_le, if◌then◌else◌, List, [], ◌∷◌, Option, Some, None, Result, Err}
use Rattle.osn_grammar.specs.declared.token.Numeral.{Numeral}
use Rattle.osn_grammar.specs.declared.token.Token.{Token}
use Rattle.osn_grammar.specs.declared.token.Token.TheVariants.{Number, Month, Dash, Slash, Dot}
use Rattle.osn_grammar.specs.declared.token.Token.TheVariants.{Blank}
use Rattle.osn_grammar.specs.declared.simple.YearNumbers.{YearNumbers}
use Rattle.osn_written.specs.declared.written_date.DateFault.{DateFault}
use Rattle.osn_written.specs.declared.written_date.DateFault.TheVariants as faults
use Rattle.osn_grammar.specs.declared.text_reading.DateOrder.{DateOrder}
use Rattle.osn_grammar.specs.declared.text_reading.DateOrder.TheVariants as order
use Rattle.osn_written.specs.declared.any_date.PartialDate.{PartialDate}
use Rattle.osn_grammar.specs.Simple.{one, two, whole_year, month_of, day_of_month, month_in_digits}
use Rattle.osn_grammar.specs.Simple.{day_in_digits, in_order, three_numbers, year_last}
use Rattle.osn_grammar.specs.Simple.{around_month, year_and_month, year_and_name, year_and_day}
use Rattle.osn_grammar.specs.Simple.{double_year_or_days, month_or_double_year}

-- a year: 1731, 1731/2
abbrev pub year_numbers : List Token → Option YearNumbers
year_numbers (Number y ∷ []) = Some (one y)
year_numbers (Number y ∷ Slash ∷ Number l ∷ []) = Some (two y l)
year_numbers _ = None

abbrev pub day_in_year : Option YearNumbers → ℕ → Numeral → Result PartialDate DateFault
day_in_year None month day = Err faults.Malformed
day_in_year (Some years) month day = day_of_month years month day

abbrev pub month_in_year : Option YearNumbers → ℕ → Result PartialDate DateFault
month_in_year None month = Err faults.Malformed
month_in_year (Some years) month = month_of years month

-- ---- a day in numbers

-- 11/2/1731, 11/2 1731, 1731/2-02-11
abbrev pub after_slash : DateOrder → Numeral → Numeral → List Token → Result PartialDate DateFault
after_slash o a b (Slash ∷ Number c ∷ []) = three_numbers o a b c
after_slash o a b (Number y ∷ []) = year_last o a b y
after_slash o a b (Dash ∷ Number m ∷ Dash ∷ Number d ∷ []) = day_in_digits (two a b) m d
after_slash o a b _ = Err faults.Malformed

-- 11.2.1731, 11.2.1731/2: with full stops the day is before the month
abbrev pub after_dot : Numeral → Numeral → List Token → Result PartialDate DateFault
after_dot d m (Dot ∷ Number y ∷ []) = in_order order.DayMonth d m y
after_dot d m (Dot ∷ Number y ∷ Slash ∷ Number l ∷ []) = day_in_digits (two y l) m d
after_dot d m _ = Err faults.Malformed

-- 11 2 1731, 1731-02-11, and with a `/` or a full stop
abbrev pub day_in_numbers : DateOrder → List Token → Result PartialDate DateFault
day_in_numbers o (Number a ∷ Number b ∷ Number c ∷ []) = three_numbers o a b c
day_in_numbers o (Number a ∷ Dash ∷ Number b ∷ Dash ∷ Number c ∷ []) = three_numbers o a b c
day_in_numbers o (Number a ∷ Slash ∷ Number b ∷ rest) = after_slash o a b rest
day_in_numbers o (Number a ∷ Dot ∷ Number b ∷ rest) = after_dot a b rest
day_in_numbers o _ = Err faults.Malformed

-- ---- a day with its month's name

-- 11 February 1731, 1731 February 11, 11 February 1731/2
abbrev pub after_name : Numeral → ℕ → List Token → Result PartialDate DateFault
after_name a m (Number b ∷ []) = around_month a m b
after_name a m (Number y ∷ Slash ∷ Number l ∷ []) = day_of_month (two y l) m a
after_name a m _ = Err faults.Malformed

-- the forms of after_name, and 1731 11 February, 11-Feb-1731, 11/Feb/1731 and 1731/2 February 11
abbrev pub after_number : Numeral → List Token → Result PartialDate DateFault
after_number a (Month m ∷ rest) = after_name a m rest
after_number a (Number d ∷ Month m ∷ []) = year_and_day a d m
after_number a (Dash ∷ Month m ∷ Dash ∷ Number b ∷ []) = around_month a m b
after_number a (Slash ∷ Month m ∷ Slash ∷ Number b ∷ []) = around_month a m b
after_number a (Slash ∷ Number b ∷ Month m ∷ Number c ∷ []) = double_year_or_days a b m c
after_number a _ = Err faults.Malformed

-- February 11 1731, February 11 1731/2, and with a full stop after the day
abbrev pub after_month : ℕ → List Token → Result PartialDate DateFault
after_month m (Number d ∷ Number y ∷ []) = day_of_month (one y) m d
after_month m (Number d ∷ Number y ∷ Slash ∷ Number l ∷ []) = day_of_month (two y l) m d
after_month m (Number d ∷ Dot ∷ year) = day_in_year (year_numbers year) m d
after_month m _ = Err faults.Malformed

abbrev pub day_in_words : List Token → Result PartialDate DateFault
day_in_words (Number a ∷ rest) = after_number a rest
day_in_words (Month m ∷ rest) = after_month m rest
day_in_words _ = Err faults.Malformed

-- ---- a month or a year

-- 1731-XX-XX is the year. One of three digits may lack a digit
abbrev pub year_without_day : Numeral → Result PartialDate DateFault
year_without_day y = if nat_le 4 y.digits then whole_year (one y) else Err faults.OpenYear

-- 1731-02, 1731-02-XX, 1731-XX-XX
abbrev pub after_dash : Numeral → List Token → Result PartialDate DateFault
after_dash y (Number m ∷ []) = year_and_month y m
after_dash y (Number m ∷ Dash ∷ Blank ∷ []) = month_in_digits (one y) m
after_dash y (Blank ∷ Dash ∷ Blank ∷ []) = year_without_day y
after_dash y _ = Err faults.Malformed

-- 2/1731, 1731/2, 1731/2 February, 1731/2-02
abbrev pub after_double_year : Numeral → Numeral → List Token → Result PartialDate DateFault
after_double_year a b [] = month_or_double_year a b
after_double_year a b (Month m ∷ []) = month_of (two a b) m
after_double_year a b (Dash ∷ Number m ∷ []) = month_in_digits (two a b) m
after_double_year a b _ = Err faults.Malformed

-- 1731, 1731 February
abbrev pub after_year : Numeral → List Token → Result PartialDate DateFault
after_year y [] = whole_year (one y)
after_year y (Month m ∷ []) = year_and_name y m
after_year y (Dash ∷ rest) = after_dash y rest
after_year y (Slash ∷ Number l ∷ rest) = after_double_year y l rest
after_year y _ = Err faults.Malformed

-- February 1731, February 1731/2
abbrev pub month_or_year : List Token → Result PartialDate DateFault
month_or_year (Number y ∷ rest) = after_year y rest
month_or_year (Month m ∷ year) = month_in_year (year_numbers year) m
month_or_year _ = Err faults.Malformed

-- ---- a date in one of the forms

-- a day, a month or a year in digits with its year first: 1731-02-11, 1731-02, 1731
abbrev pub date_in_digits : List Token → Result PartialDate DateFault
date_in_digits (Number y ∷ Dash ∷ Number m ∷ Dash ∷ Number d ∷ []) = day_in_digits (one y) m d
date_in_digits (Number y ∷ Dash ∷ Number m ∷ []) = year_and_month y m
date_in_digits (Number y ∷ []) = whole_year (one y)
date_in_digits _ = Err faults.Malformed

-- a reading, or another one if it has no form
abbrev pub or_else : Result PartialDate DateFault → Result PartialDate DateFault
    → Result PartialDate DateFault
or_else (Err faults.Malformed) other = other
or_else read other = read

-- a date in one of the forms
abbrev pub partial_date : DateOrder → List Token → Result PartialDate DateFault
partial_date o tokens =
    or_else (day_in_numbers o tokens) (or_else (day_in_words tokens) (month_or_year tokens))
