-- Two dates that are not one day: 3/14 June 1675. This project's profile.
use Rattle.std.specs.Prelude.{ℕ, ℤ, pos, ◌-ℤ◌, Bool, ◌&&◌, nat_lt, ◌==◌, if◌then◌else◌}
use Rattle.std.specs.Prelude.{List, [], ◌∷◌, map}
use Rattle.osn_days.specs.declared.calendar.Calendar.{Calendar}
use Rattle.osn_days.specs.declared.calendar.Calendar.TheVariants.{Gregorian, Julian}
use Rattle.osn_days.specs.declared.date.Date.{Date}
use Rattle.osn_days.specs.Chain.{date_of, days_with_date}
use Rattle.osn_days.specs.Rules.{Rules}
use Rattle.osn_written.specs.declared.written_date.MonthDay.{MonthDay}
use Rattle.osn_written.specs.declared.written_date.DateFault.{DateFault}
use Rattle.osn_written.specs.declared.written_date.DateFault.TheVariants as faults

-- the date of these numbers, whether a calendar has it or not
abbrev pub date_in_year : ℤ → MonthDay → Date
date_in_year y d = record { year = y; month = d.month; day = d.day }

-- the date in another calendar of the day of the line that has a date in one
abbrev pub dates_in_other : Rules → Calendar → Calendar → ℤ → MonthDay → List Date
dates_in_other p own other y d =
    map (date_of other) (days_with_date p own (date_in_year y d))

-- the Julian year of the first date is the Gregorian year of the second one, or the year before it
-- if the first one is in a later month: 27 Dec. 1675/6 Jan. 1676
abbrev pub julian_year : ℕ → MonthDay → MonthDay → ℤ
julian_year y old written =
    if nat_lt written.month old.month then pos y -ℤ pos 1 else pos y

abbrev pub is_same : MonthDay → Date → Bool
is_same written d = (d.month == written.month) && (d.day == written.day)

-- if the second date has the day and the month of the first one, or no day is the first one, it is
-- the years that are not sure
abbrev pub if_other : MonthDay → MonthDay → List Date → DateFault
if_other old written [] = faults.BothCalendars
if_other old written (d ∷ ds) =
    if is_same written d then faults.BothCalendars
    else faults.TwoDays old (record { month = d.month; day = d.day }) written

-- why a first date and a second one of a Gregorian year are not those of one day
abbrev pub two_days : Rules → ℕ → MonthDay → MonthDay → DateFault
two_days p y old written =
    if_other old written (dates_in_other p Julian Gregorian (julian_year y old written) old)
