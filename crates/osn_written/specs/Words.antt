-- In a few words, why a text says nothing of a date, or why a date means no day. This project's
-- profile.
use Rattle.std.specs.Prelude.{ℕ, List, codes}
use Rattle.osn_written.specs.declared.absence.Absence.{Absence}
use Rattle.osn_written.specs.declared.absence.Absence.TheVariants as why
use Rattle.osn_written.specs.declared.finding.NoDay.{NoDay}
use Rattle.osn_written.specs.declared.finding.NoDay.TheVariants as none
use Rattle.osn_written.specs.declared.written_date.DateFault.{DateFault}
use Rattle.osn_written.specs.declared.written_date.DateFault.TheVariants as faults

-- why one date means no day
abbrev pub absence_words : Absence → List ℕ
absence_words why.NotWithBothYears = codes "not with both years"
absence_words why.NotOfItsCalendar = codes "no date of its calendar"
absence_words why.OffTheLine = codes "off the line"
absence_words why.Skipped = codes "skipped"
absence_words why.NotInThatYear = codes "no such date in that year"

-- why the last date of a range means no day
abbrev pub last_absence_words : Absence → List ℕ
last_absence_words why.NotWithBothYears = codes "last date: not with both years"
last_absence_words why.NotOfItsCalendar = codes "last date: no date of its calendar"
last_absence_words why.OffTheLine = codes "last date: off the line"
last_absence_words why.Skipped = codes "last date: skipped"
last_absence_words why.NotInThatYear = codes "last date: no such date in that year"

-- why a written date means no day
abbrev pub no_day_words : NoDay → List ℕ
no_day_words (none.Absent absence) = absence_words absence
no_day_words (none.LastAbsent absence) = last_absence_words absence
no_day_words none.OutOfOrder = codes "first date after the last"
no_day_words none.OffTheLine = codes "off the line"
no_day_words none.NoFeast = codes "no such feast in that year"

-- why a text says nothing of a date
abbrev pub fault_words : DateFault → List ℕ
fault_words faults.Malformed = codes "malformed date"
fault_words faults.LaterYear = codes "not the year that follows"
fault_words faults.Year = codes "no year from 0 to 10000"
fault_words faults.Month = codes "no month from 1 to 12"
fault_words faults.Day = codes "no day from 1 to 31"
fault_words faults.NoDate = codes "no date"
fault_words faults.NotOneDay = codes "not one day"
fault_words faults.Qualifier = codes "more than a day"
fault_words faults.ShortYear = codes "year of one or two digits"
fault_words faults.OpenYear = codes "year with an open digit"
fault_words faults.DayOrMonth = codes "open between day and month"
fault_words faults.BothCalendars = codes "day by both calendars"
fault_words (faults.TwoDays old new written) = codes "two days by both calendars"
fault_words faults.NamedCalendar = codes "one calendar for the dates of both"
fault_words faults.Feast = codes "a feast, not read"
fault_words faults.RomanNumeral = codes "a Roman numeral, not read"
fault_words faults.OpenPart = codes "an open part of a date, not read"
