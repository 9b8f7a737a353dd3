-- What is near a date that no day of a territory has. This project's profile.
use Rattle.std.specs.Prelude.{ℕ, false, List, [], Option, Some, None}
use Rattle.osn_days.specs.Rules.{Rules}
use Rattle.osn_territory.specs.declared.runs.Run.{Run}
use Rattle.osn_territory.specs.LabelOrder.{gaps}
use Rattle.osn_territory.specs.Territory.{TerritoryModel, reading}
use Rattle.osn_written.specs.declared.absence.Absence.{Absence}
use Rattle.osn_written.specs.declared.absence.Absence.TheVariants as why
use Rattle.osn_written.specs.declared.any_date.Extent.{Extent}
use Rattle.osn_written.specs.declared.any_date.PartialDate.TheVariants as date
use Rattle.osn_written.specs.declared.any_date.Year.{Year}
use Rattle.osn_written.specs.declared.finding.NoDay.{NoDay}
use Rattle.osn_written.specs.declared.finding.NoDay.TheVariants as none
use Rattle.osn_written.specs.declared.missing_date.MissingDate.{MissingDate}
use Rattle.osn_written.specs.Finding.{ends_of, first_day_of}
use Rattle.osn_written.specs.Meaning.{label_of}
use Rattle.osn_written.specs.Nearest.{nearest_days}
use Rattle.osn_written.specs.Runs.{runs_meant}

-- the date whose day is missing, if that is why no day is meant
abbrev pub missing_day : Extent → NoDay → Option MissingDate
missing_day e (none.Absent absence) =
    Some (record { date = first_day_of (ends_of e).0; absence = absence })
missing_day e (none.LastAbsent absence) =
    Some (record { date = first_day_of (ends_of e).1; absence = absence })
missing_day e none.OutOfOrder = None
missing_day e none.OffTheLine = None
missing_day e none.NoFeast = None

-- the days that are most like it: those with its first year alone, or those of its month and day in
-- the nearest years. A date of no calendar and one off the line have none
abbrev pub like_days : Rules → TerritoryModel → MissingDate → Absence → List ℕ
like_days p t m why.NotWithBothYears = reading p t (label_of m.date)
like_days p t m why.NotOfItsCalendar = []
like_days p t m why.OffTheLine = []
like_days p t m why.Skipped = nearest_days p t m.date
like_days p t m why.NotInThatYear = nearest_days p t m.date

abbrev pub days_like : Rules → TerritoryModel → MissingDate → List ℕ
days_like p t m = like_days p t m m.absence

-- the changes at which it was skipped
abbrev pub skipping_changes : Rules → TerritoryModel → MissingDate → Absence → List ℕ
skipping_changes p t m why.Skipped = gaps p t (label_of m.date)
skipping_changes p t m absence = []

abbrev pub changes_over : Rules → TerritoryModel → MissingDate → List ℕ
changes_over p t m = skipping_changes p t m m.absence

-- a year as it is written in four digits
abbrev pub plain_year : ℕ → Year
plain_year year = record { first = year; is_double = false; has_three_digits = false }

-- the days of the year that lacks it, as runs
abbrev pub lacking_year : Rules → TerritoryModel → MissingDate → Absence → List Run
lacking_year p t m why.NotInThatYear = runs_meant p t (date.Year (plain_year m.date.year))
lacking_year p t m absence = []

abbrev pub year_without : Rules → TerritoryModel → MissingDate → List Run
year_without p t m = lacking_year p t m m.absence
