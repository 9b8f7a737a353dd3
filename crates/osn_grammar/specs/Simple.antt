-- Simple dates, a day, a month or a year, of the numbers with which they are written. This
-- project's profile.
use Rattle.std.specs.Prelude.{ℕ, Bool, true, ◌&&◌, ◌||◌, not, nat_le, nat_lt, ◌==◌, ◌+◌, ◌%◌, ◌^◌}
use Rattle.std.specs.Prelude.{if◌then◌else◌, Option, Some, None, is_some}
use Rattle.std.specs.Prelude.{Result, Ok, Err}
use Rattle.osn_grammar.specs.declared.token.Numeral.{Numeral}
use Rattle.osn_grammar.specs.declared.simple.YearNumbers.{YearNumbers}
use Rattle.osn_written.specs.declared.written_date.DateFault.{DateFault}
use Rattle.osn_written.specs.declared.written_date.DateFault.TheVariants as faults
use Rattle.osn_grammar.specs.declared.text_reading.DateOrder.{DateOrder}
use Rattle.osn_grammar.specs.declared.text_reading.DateOrder.TheVariants as order
use Rattle.osn_written.specs.declared.any_date.PartialDate.{PartialDate}
use Rattle.osn_written.specs.declared.any_date.PartialDate.TheVariants as date
use Rattle.osn_written.specs.declared.any_date.Year.{Year}

-- one reading after another, if the first one succeeds
infixl 10 ◌>>=◌
abbrev pub ◌>>=◌ : {A B E : Type 0} → Result A E → (A → Result B E) → Result B E
(Ok x) >>= f = f x
(Err e) >>= f = Err e

-- ---- years

-- a year of one number, or of two with a `/` between them
abbrev pub one : Numeral → YearNumbers
one first = record { first = first; later = None }

abbrev pub two : Numeral → Numeral → YearNumbers
two first later = record { first = first; later = Some later }

-- a number of three digits or more is a year
abbrev pub is_long : Numeral → Bool
is_long n = nat_le 3 n.digits

-- a year of three digits and no zero before them may lack its last one: 173
abbrev pub lacks_digit : Numeral → Bool
lacks_digit n = n.digits == 3 && nat_le 100 n.value

-- the last digits of the next year: one digit or more, or the whole year with zeros before it
abbrev pub ends_next_year : ℕ → Numeral → Bool
ends_next_year year later = later.value == (year + 1) % 10 ^ later.digits

abbrev pub has_its_later : Numeral → Option Numeral → Bool
has_its_later first None = true
has_its_later first (Some later) = ends_next_year first.value later

abbrev pub has_its_later_year : YearNumbers → Bool
has_its_later_year years = has_its_later years.first years.later

-- a year is 0 to 10000, and one of fewer than three digits has its zeros
abbrev pub year_of : YearNumbers → Result Year DateFault
year_of years =
    if not (is_long years.first) then Err faults.ShortYear
    else (if nat_lt 10000 years.first.value then Err faults.Year
    else (if not (has_its_later_year years) then Err faults.LaterYear
    else Ok (record {
      first = years.first.value;
      is_double = is_some years.later;
      has_three_digits = lacks_digit years.first;
    })))

-- ---- dates of numbers

-- a number from a least to a greatest one
abbrev pub is_between : ℕ → ℕ → ℕ → Bool
is_between low high n = nat_le low n && nat_le n high

-- a month is 1 to 12
abbrev pub month_in : Year → ℕ → Result PartialDate DateFault
month_in year month =
    if not (is_between 1 12 month) then Err faults.Month else Ok (date.Month year month)

-- a day is 1 to 31
abbrev pub day_in : Year → ℕ → ℕ → Result PartialDate DateFault
day_in year month day =
    if not (is_between 1 12 month) then Err faults.Month
    else (if not (is_between 1 31 day) then Err faults.Day
    else Ok (date.Day year month day))

abbrev pub whole_year : YearNumbers → Result PartialDate DateFault
whole_year years = do
  year ← year_of years
  Ok (date.Year year)

abbrev pub month_of : YearNumbers → ℕ → Result PartialDate DateFault
month_of years month = do
  year ← year_of years
  month_in year month

abbrev pub day_of : YearNumbers → ℕ → ℕ → Result PartialDate DateFault
day_of years month day = do
  year ← year_of years
  day_in year month day

-- a month and a day in digits have one or two of them: a longer number is a year, and no part of
-- the date
abbrev pub day_of_month : YearNumbers → ℕ → Numeral → Result PartialDate DateFault
day_of_month years month day =
    if is_long day then Err faults.Malformed else day_of years month day.value

abbrev pub month_in_digits : YearNumbers → Numeral → Result PartialDate DateFault
month_in_digits years month =
    if is_long month then Err faults.Malformed else month_of years month.value

abbrev pub day_in_digits : YearNumbers → Numeral → Numeral → Result PartialDate DateFault
day_in_digits years month day =
    if is_long month || is_long day then Err faults.Malformed
    else day_of years month.value day.value

-- three numbers that end with the year are open between day and month, unless their order is known
abbrev pub by_order : DateOrder → Numeral → Numeral → Numeral → Result PartialDate DateFault
by_order order.Unknown a b year = Err faults.DayOrMonth
by_order order.DayMonth a b year = day_in_digits (one year) b a
by_order order.MonthDay a b year = day_in_digits (one year) a b

-- three numbers end with the year if the last one is long and the first one is not
abbrev pub in_order : DateOrder → Numeral → Numeral → Numeral → Result PartialDate DateFault
in_order order a b c =
    if is_long c && not (is_long a) then by_order order a b c else day_in_digits (one a) b c

-- each of two numbers may be the month, and it is not the same day either way
abbrev pub is_either_month : ℕ → ℕ → Bool
is_either_month a b = is_between 1 12 a && (is_between 1 12 b && not (a == b))

-- the order of two numbers is found, unless each of them may be the month: 25/12/1640
abbrev pub order_of : DateOrder → ℕ → ℕ → DateOrder
order_of order.Unknown a b =
    if is_either_month a b then order.Unknown
    else (if nat_lt 12 b then order.MonthDay else order.DayMonth)
order_of order a b = order

-- three numbers with dashes, slashes or blanks between them, whose order is found if it can be
abbrev pub three_numbers : DateOrder → Numeral → Numeral → Numeral → Result PartialDate DateFault
three_numbers order a b c = in_order (order_of order a.value b.value) a b c

-- `11/2 1731` ends with its year, and `1731/2 11` is not a date
abbrev pub year_last : DateOrder → Numeral → Numeral → Numeral → Result PartialDate DateFault
year_last order a b year =
    if is_long year && not (is_long a) then three_numbers order a b year else Err faults.Malformed

-- of two numbers with a month between them the first one is the year if it is long
abbrev pub around_month : Numeral → ℕ → Numeral → Result PartialDate DateFault
around_month a month b =
    if is_long a then day_of_month (one a) month b else day_of_month (one b) month a

-- `1640-11` is a month; `1640-1645` and `1731-2` are not
abbrev pub year_and_month : Numeral → Numeral → Result PartialDate DateFault
year_and_month year month =
    if month.digits == 2 then month_of (one year) month.value else Err faults.Malformed

-- `1640 November` is a month, `11 November` lacks its year
abbrev pub year_and_name : Numeral → ℕ → Result PartialDate DateFault
year_and_name year month =
    if is_long year then month_of (one year) month else Err faults.Malformed

-- `1640, 3 May` begins with its year
abbrev pub year_and_day : Numeral → Numeral → ℕ → Result PartialDate DateFault
year_and_day year day month =
    if is_long year then day_of_month (one year) month day else Err faults.Malformed

-- `1731/2 February 11` has a double year, `11/22 February 1731` the day by both calendars
abbrev pub double_year_or_days : Numeral → Numeral → ℕ → Numeral → Result PartialDate DateFault
double_year_or_days a b month c =
    if is_long a then day_of_month (two a b) month c else Err faults.BothCalendars

-- `2/1731` is a month, `1731/2` a double year
abbrev pub month_or_double_year : Numeral → Numeral → Result PartialDate DateFault
month_or_double_year a b =
    if not (is_long a) && is_long b then month_of (one b) a.value else whole_year (two a b)
