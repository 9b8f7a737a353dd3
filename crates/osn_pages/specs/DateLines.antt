-- The lines of a date with all that is written of it: its days, or why it has none. This project's
-- profile.
use Rattle.std.specs.Prelude.{ℕ, Bool, List, [], ◌∷◌, ◌++◌, Option, Some, None, Result, Ok, Err}
use Rattle.std.specs.Prelude.{codes}
use Rattle.std.specs.Result.{is_err}
use Rattle.osn_days.specs.declared.weekday.Weekday.{Weekday}
use Rattle.osn_days.specs.Rules.{Rules}
use Rattle.osn_written.specs.declared.any_date.Extent.{Extent}
use Rattle.osn_written.specs.declared.any_date.AnyDate.{AnyDate}
use Rattle.osn_territory.specs.declared.dating.DatedDay.{DatedDay}
use Rattle.osn_territory.specs.declared.runs.Run.{Run}
use Rattle.osn_territory.specs.Territory.{TerritoryModel}
use Rattle.osn_register.specs.Sources.{SourcesModel}
use Rattle.osn_written.specs.declared.absence.Absence.{Absence}
use Rattle.osn_written.specs.declared.finding.NoDay.{NoDay}
use Rattle.osn_written.specs.declared.finding.NoDay.TheVariants.{Absent, LastAbsent, OutOfOrder}
use Rattle.osn_written.specs.declared.finding.NoDay.TheVariants.{OffTheLine, NoFeast}
use Rattle.osn_written.specs.declared.kind.Kind.{Kind}
use Rattle.osn_written.specs.declared.kind.Kind.TheVariants as kinds
use Rattle.osn_written.specs.declared.written_date.WrittenDate.{WrittenDate}
use Rattle.osn_written.specs.Finding.{extent_meant, with_reckoning, ends_of, first_day_of}
use Rattle.osn_written.specs.Kind.{kind_of}
use Rattle.osn_written.specs.Meaning.{dated_by, meaning}
use Rattle.osn_written.specs.PlainDay.{one_day}
use Rattle.osn_pages.specs.Reading.{days_text}
use Rattle.osn_pages.specs.Runs.{runs_text}
use Rattle.osn_pages.specs.Why.{why_lines, why_text}

-- ---- one day

-- the days that a date means, as the place itself dated them, or why it means none
abbrev pub reading_lines : Rules → TerritoryModel → Option SourcesModel → WrittenDate
    → Option Weekday → List DatedDay → List ℕ
reading_lines p t sources w given [] = why_lines p t sources w
reading_lines p t sources w given (day ∷ days) = days_text w given (day ∷ days)

-- ---- a month, a year, a range or a bound

-- the line has no day before the date, or no day after it
abbrev pub off_the_line : Kind → List ℕ
off_the_line kinds.Before = codes "no day of the line is before it\n"
off_the_line kind = codes "no day of the line is after it\n"

-- why the last date of a range means no day
abbrev pub last_absent_lines : Rules → TerritoryModel → Option SourcesModel → WrittenDate
    → Absence → List ℕ
last_absent_lines p t sources last absence =
    codes "of the last date:\n" ++ why_text p t sources last absence

-- why no day is meant, as the territory by whose reckoning the date is read has it, with the
-- sources of the place
abbrev pub no_day_lines : Rules → TerritoryModel → Option SourcesModel → Extent → NoDay → List ℕ
no_day_lines p t sources e (Absent absence) =
    why_text p t sources (first_day_of (ends_of e).0) absence
no_day_lines p t sources e (LastAbsent absence) =
    last_absent_lines p t sources (first_day_of (ends_of e).1) absence
no_day_lines p t sources e OutOfOrder = codes "the first date is after the last one\n"
no_day_lines p t sources e OffTheLine = off_the_line (kind_of e)
no_day_lines p t sources e NoFeast = codes "that feast did not fall in that year\n"

-- the days, as the place itself dated them, or why no day is meant
abbrev pub found_lines : Rules → TerritoryModel → TerritoryModel → Option SourcesModel → Extent
    → Result (List Run) NoDay → List ℕ
found_lines p own t sources e (Ok runs) = runs_text p own (kind_of e) runs
found_lines p own t sources e (Err reason) = no_day_lines p t sources e reason

-- ---- any date

-- the date by the reckoning of a territory, in a place of its own reckoning
abbrev pub lines_of : Rules → TerritoryModel → TerritoryModel → Option SourcesModel → AnyDate
    → Option Weekday → Option WrittenDate → List ℕ
lines_of p own t sources w given (Some day) =
    reading_lines p t sources day given (dated_by p own (meaning p t day given))
lines_of p own t sources w given None =
    found_lines p own t sources w.extent (extent_meant p t w.extent)

-- if the date names a calendar, it is read as if the place had used that one
abbrev pub date_lines : Rules → TerritoryModel → Option SourcesModel → AnyDate → Option Weekday
    → List ℕ
date_lines p t sources w given =
    lines_of p t (with_reckoning t w.reckoning) sources w given (one_day w)

-- the date means no day
abbrev pub has_no_day : Rules → TerritoryModel → AnyDate → Bool
has_no_day p t w = is_err (extent_meant p (with_reckoning t w.reckoning) w.extent)
