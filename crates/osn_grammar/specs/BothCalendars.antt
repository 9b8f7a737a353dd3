-- A day by both calendars, such as 3/13 June 1675: its Julian date and its Gregorian one. This
-- project's profile.
use Rattle.std.specs.Prelude.{ℕ, Bool, true, false, not, ◌&&◌, ◌||◌, nat_le, nat_lt, ◌==◌, ◌+◌, pos}
use Rattle.std.specs.Prelude.{◌+ℤ◌}
use Rattle.std.specs.Prelude.{if◌then◌else◌, List, [], ◌∷◌, Option, Some, None, is_some}
use Rattle.std.specs.Prelude.{Result, Ok, Err}
use Rattle.std.specs.List.{list_any}
use Rattle.std.specs.Ordering.{int_eq}
use Rattle.std.specs.Result.{result_ok}
use Rattle.osn_days.specs.declared.calendar.Calendar.TheVariants.{Gregorian, Julian}
use Rattle.osn_days.specs.declared.date.Date.{Date}
use Rattle.osn_days.specs.Rules.{Rules}
use Rattle.osn_territory.specs.Style.{is_before_25_march}
use Rattle.osn_grammar.specs.declared.both_calendars.ReckonedDay.{ReckonedDay}
use Rattle.osn_grammar.specs.declared.date_pairs.TwoDates.{TwoDates}
use Rattle.osn_grammar.specs.declared.date_pairs.WrittenYears.{WrittenYears}
use Rattle.osn_grammar.specs.declared.date_pairs.WrittenYears.TheVariants as years
use Rattle.osn_grammar.specs.declared.token.Numeral.{Numeral}
use Rattle.osn_grammar.specs.declared.token.Token.{Token}
use Rattle.osn_grammar.specs.declared.token.Token.TheVariants.{Number, Month, Slash, Round, Weekday}
use Rattle.osn_grammar.specs.declared.token.Token.TheVariants.{Reckoning as By}
use Rattle.osn_written.specs.declared.any_date.Reckoning.{Reckoning}
use Rattle.osn_written.specs.declared.any_date.Reckoning.TheVariants.{OldStyle, NewStyle}
use Rattle.osn_grammar.specs.declared.simple.YearNumbers.{YearNumbers}
use Rattle.osn_grammar.specs.Forms.{year_numbers}
use Rattle.osn_grammar.specs.Simple.{is_long, one, year_of}
use Rattle.osn_grammar.specs.TwoDays.{dates_in_other, two_days}
use Rattle.osn_written.specs.declared.any_date.PartialDate.TheVariants as date
use Rattle.osn_written.specs.declared.any_date.Year.{Year}
use Rattle.osn_written.specs.declared.written_date.MonthDay.{MonthDay}
use Rattle.osn_written.specs.declared.written_date.DateFault.{DateFault}
use Rattle.osn_written.specs.declared.written_date.DateFault.TheVariants as faults

-- ---- the two dates

-- a day is 1 to 31, in one or two digits
abbrev pub month_day : ℕ → Numeral → Option MonthDay
month_day m d =
    if is_long d || (nat_lt d.value 1 || nat_lt 31 d.value) then None
    else Some (record { month = m; day = d.value })

-- a day and its month: 3 June
abbrev pub day_and_month : Token → Token → Option MonthDay
day_and_month (Number d) (Month m) = month_day m d
day_and_month day month = None

abbrev pub two_dates : Option MonthDay → Option MonthDay → Option WrittenYears → Option TwoDates
two_dates None new written = None
two_dates (Some old) None written = None
two_dates (Some old) (Some new) None = None
two_dates (Some old) (Some new) (Some written) =
    Some (record { old = old; new = new; years = written })

-- one year for both dates: 1675, 1674/5
abbrev pub shared_by : Option YearNumbers → Option WrittenYears
shared_by None = None
shared_by (Some written) = Some (years.Shared written)

abbrev pub shared_by_both : List Token → Option WrittenYears
shared_by_both tokens = shared_by (year_numbers tokens)

-- 3/13 June 1675
abbrev pub before_their_month : List Token → Option TwoDates
before_their_month (old ∷ Slash ∷ new ∷ month ∷ year) =
    two_dates (day_and_month old month) (day_and_month new month) (shared_by_both year)
before_their_month _ = None

-- June 3/13, 1675
abbrev pub after_their_month : List Token → Option TwoDates
after_their_month (month ∷ old ∷ Slash ∷ new ∷ year) =
    two_dates (day_and_month old month) (day_and_month new month) (shared_by_both year)
after_their_month _ = None

-- 28 May/7 June 1675
abbrev pub with_months : List Token → Option TwoDates
with_months (old ∷ month ∷ Slash ∷ new ∷ other ∷ year) =
    two_dates (day_and_month old month) (day_and_month new other) (shared_by_both year)
with_months _ = None

-- Sept. 24/Oct. 4, 1657
abbrev pub with_days : List Token → Option TwoDates
with_days (month ∷ old ∷ Slash ∷ other ∷ new ∷ year) =
    two_dates (day_and_month old month) (day_and_month new other) (shared_by_both year)
with_days _ = None

-- 27 Dec. 1675/6 Jan. 1676
abbrev pub year_of_each : Token → Token → Option WrittenYears
year_of_each (Number first) (Number last) = Some (years.Each first last)
year_of_each first last = None

abbrev pub with_years : List Token → Option TwoDates
with_years (old ∷ month ∷ first ∷ Slash ∷ new ∷ other ∷ last ∷ []) =
    two_dates (day_and_month old month) (day_and_month new other) (year_of_each first last)
with_years _ = None

-- Dec. 27, 1675/Jan. 6, 1676
abbrev pub with_days_and_years : List Token → Option TwoDates
with_days_and_years (month ∷ old ∷ first ∷ Slash ∷ other ∷ new ∷ last ∷ []) =
    two_dates (day_and_month old month) (day_and_month new other) (year_of_each first last)
with_days_and_years _ = None

abbrev pub or_dates : Option TwoDates → Option TwoDates → Option TwoDates
or_dates (Some dates) other = Some dates
or_dates None other = other

abbrev pub months_between : List Token → Option TwoDates
months_between tokens =
    or_dates (or_dates (with_months tokens) (with_years tokens))
    (or_dates (with_days tokens) (with_days_and_years tokens))

abbrev pub slashed_dates : List Token → Option TwoDates
slashed_dates tokens =
    or_dates (or_dates (before_their_month tokens) (after_their_month tokens))
    (months_between tokens)

-- 3 (13) June 1675, June 3 (13), 1675: a number is before the one in round brackets, after a
-- weekday or the month or after nothing
abbrev pub begin_round : List Token → Bool
begin_round (Number a ∷ Round ∷ rest) = true
begin_round (Month m ∷ Number a ∷ Round ∷ rest) = true
begin_round (Weekday w ∷ Number a ∷ Round ∷ rest) = true
begin_round _ = false

abbrev pub beside : List Token → Option TwoDates
beside (Month m ∷ old ∷ new ∷ year) =
    two_dates (day_and_month old (Month m)) (day_and_month new (Month m)) (shared_by_both year)
beside (old ∷ new ∷ month ∷ year) =
    two_dates (day_and_month old month) (day_and_month new month) (shared_by_both year)
beside _ = None

abbrev pub if_round : List Token → Option TwoDates → Option TwoDates
if_round tokens None = None
if_round tokens (Some dates) = if begin_round tokens then Some dates else None

-- all parts, and those that say which day is meant
abbrev pub dates_in : List Token → List Token → Option TwoDates
dates_in tokens time_tokens =
    or_dates (slashed_dates time_tokens) (if_round tokens (beside time_tokens))

-- ---- the Gregorian year

-- from 1 January to 24 March a year may be counted from 1 January or from 25 March
abbrev pub is_early : MonthDay → Bool
is_early d = is_before_25_march d.month d.day

-- of a double year the later one is counted from 1 January
abbrev pub later_of : Year → Year
later_of y =
    record { first = y.first + 1; is_double = false; has_three_digits = y.has_three_digits }

-- one year for both dates is sure if it is double, and one of them is from 1 January to 24 March;
-- or if it is not double, and neither of them is from those days
abbrev pub if_settled : Bool → Result Year DateFault → Option Year
if_settled early (Err fault) = None
if_settled early (Ok y) =
    if early && y.is_double then Some (later_of y)
    else (if not early && not y.is_double then Some y
    else None)

abbrev pub shared_year : Bool → YearNumbers → Option Year
shared_year early written = if_settled early (year_of written)

abbrev pub year_by : Bool → WrittenYears → Option Year
year_by early (years.Shared written) = shared_year early written
year_by early (years.Each first last) = result_ok (year_of (one last))

abbrev pub gregorian_year : TwoDates → Option Year
gregorian_year dates = year_by (is_early dates.old || is_early dates.new) dates.years

-- ---- one day

-- the Julian date of the day of the line that has a Gregorian one
abbrev pub julian_dates : Rules → ℕ → MonthDay → List Date
julian_dates p y d = dates_in_other p Gregorian Julian (pos y) d

-- a year that is written for a Julian date is its year, or the one before if it is from 1 January
-- to 24 March
abbrev pub has_year : Date → MonthDay → WrittenYears → Bool
has_year d old (years.Shared written) = true
has_year d old (years.Each first last) =
    int_eq d.year (pos first.value)
    || (is_early old && int_eq d.year (pos first.value +ℤ pos 1))

abbrev pub is_old : TwoDates → Date → Bool
is_old dates d =
    d.month == dates.old.month
    && (d.day == dates.old.day && has_year d dates.old dates.years)

-- the day that has the second date in the Gregorian calendar has the first one in the Julian
abbrev pub are_one_day : Rules → Year → TwoDates → Bool
are_one_day p y dates = list_any (is_old dates) (julian_dates p y.first dates.new)

-- a date of the day by one of the calendars
abbrev pub reckoned_day : Year → MonthDay → Reckoning → ReckonedDay
reckoned_day y d r = record { date = date.Day y d.month d.day; reckoning = r }

-- 16/26 Febr. 1690 has one year that is not double, though the place may have begun it on 25 March.
-- It is taken as the first date by the old calendar, in the place's own year. Whichever year that
-- is, the two dates have to be one day of it
abbrev pub either : Bool → Bool → ReckonedDay → DateFault → Result ReckonedDay DateFault
either own next day fault =
    if own && next then Ok day
    else (if own || next then Err faults.BothCalendars
    else Err fault)

abbrev pub in_own_year : Rules → TwoDates → Year → Result ReckonedDay DateFault
in_own_year p dates y =
    either (are_one_day p y dates) (are_one_day p (later_of y) dates)
    (reckoned_day y dates.old OldStyle)
    (two_days p y.first dates.old dates.new)

-- both dates are of the year that is written: the first one is from 1 January to 24 March, and the
-- second one is in its month or a later one
abbrev pub are_of_one_year : TwoDates → Bool
are_of_one_year dates = is_early dates.old && nat_le dates.old.month dates.new.month

abbrev pub if_plain : Rules → TwoDates → Result Year DateFault → Result ReckonedDay DateFault
if_plain p dates (Err fault) = Err faults.BothCalendars
if_plain p dates (Ok y) =
    if are_of_one_year dates && not y.is_double then in_own_year p dates y
    else Err faults.BothCalendars

abbrev pub day_of_own_year : Rules → TwoDates → WrittenYears → Result ReckonedDay DateFault
day_of_own_year p dates (years.Shared written) = if_plain p dates (year_of written)
day_of_own_year p dates (years.Each first last) = Err faults.BothCalendars

abbrev pub day_in_year : Rules → TwoDates → Option Year → Result ReckonedDay DateFault
day_in_year p dates None = day_of_own_year p dates dates.years
day_in_year p dates (Some y) =
    if are_one_day p y dates then Ok (reckoned_day y dates.new NewStyle)
    else Err (two_days p y.first dates.old dates.new)

abbrev pub day_of_both : Rules → TwoDates → Result ReckonedDay DateFault
day_of_both p dates = day_in_year p dates (gregorian_year dates)

-- the date of the day that parts are by both calendars, if it is sure
abbrev pub day_if_two : Rules → Option TwoDates → Result ReckonedDay DateFault
day_if_two p None = Err faults.Malformed
day_if_two p (Some dates) = day_of_both p dates

abbrev pub day_by_both : Rules → List Token → List Token → Result ReckonedDay DateFault
day_by_both p tokens time_tokens = day_if_two p (dates_in tokens time_tokens)

-- ---- with the names of both calendars

-- 3 June O.S./13 June N.S. 1675, 3 June 1675 O.S./13 June 1675 N.S., with a double year too
abbrev pub are_new_and_year : List Token → Bool
are_new_and_year (By NewStyle ∷ year) = is_some (year_numbers year)
are_new_and_year (Number y ∷ By NewStyle ∷ []) = true
are_new_and_year (Number y ∷ Slash ∷ Number l ∷ By NewStyle ∷ []) = true
are_new_and_year _ = false

abbrev pub is_new_last : List Token → Bool
is_new_last (Number b ∷ Month n ∷ rest) = are_new_and_year rest
is_new_last _ = false

abbrev pub is_old_first : List Token → Bool
is_old_first (By OldStyle ∷ Slash ∷ last) = is_new_last last
is_old_first (Number y ∷ By OldStyle ∷ Slash ∷ last) = is_new_last last
is_old_first _ = false

abbrev pub are_named : List Token → Bool
are_named (Number a ∷ Month m ∷ rest) = is_old_first rest
are_named (Weekday w ∷ Number a ∷ Month m ∷ rest) = is_old_first rest
are_named _ = false

abbrev pub named_day : Rules → List Token → List Token → Result ReckonedDay DateFault
named_day p tokens time_tokens =
    if are_named tokens then day_by_both p tokens time_tokens else Err faults.Malformed
