-- Which days a written day, month or year means in a territory, and the runs that these days are.
-- This project's profile.
use Rattle.std.specs.Prelude.{ℕ, Bool, true, ◌&&◌, ◌||◌, ◌+◌, ◌==◌, if◌then◌else◌, ℤ, pos, ◌<◌, ◌≤◌}
use Rattle.std.specs.Prelude.{List, [], ◌∷◌, filter}
use Rattle.std.specs.Ordering.{int_eq}
use Rattle.osn_days.specs.Rules.{Rules}
use Rattle.osn_days.specs.Line.{line}
use Rattle.osn_written.specs.declared.any_date.PartialDate.{PartialDate}
use Rattle.osn_written.specs.declared.any_date.PartialDate.TheVariants.{Day, Month, Year}
use Rattle.osn_written.specs.declared.any_date.Year as written
use Rattle.osn_territory.specs.declared.dating.DatedDay.{DatedDay}
use Rattle.osn_territory.specs.declared.label.Label.{Label}
use Rattle.osn_territory.specs.declared.runs.Run.{Run}
use Rattle.osn_territory.specs.Dating.{dated_on}
use Rattle.osn_territory.specs.Style.{is_before_25_march}
use Rattle.osn_territory.specs.Territory.{TerritoryModel}

-- ---- the days

-- the year that is written
abbrev pub year_of : PartialDate → written.Year
year_of (Day year month day) = year
year_of (Month year month) = year
year_of (Year year) = year

-- the label has the month and the day of the month, if they are written
abbrev pub has_month_and_day : PartialDate → Label → Bool
has_month_and_day (Day year month day) label = (label.month == month) && (label.day == day)
has_month_and_day (Month year month) label = label.month == month
has_month_and_day (Year year) label = true

-- the day is of the double year that begins with this one. Its year counted from 1 January is the
-- later one, and the year of its label is the first one. From 1 January to 24 March that may be the
-- later one too, if the territory wrote the later year alone
abbrev pub is_in_double_year : ℕ → DatedDay → Bool
is_in_double_year first day =
    int_eq day.january_year (pos (first + 1))
    && (int_eq day.label.year (pos first)
    || (int_eq day.label.year (pos (first + 1))
    && is_before_25_march day.label.month day.label.day))

-- the day is of the year: for a single one, that is the year of its label
abbrev pub is_in_year : written.Year → DatedDay → Bool
is_in_year year day =
    if year.is_double then is_in_double_year year.first day
    else int_eq day.label.year (pos year.first)

-- the date means the day
abbrev pub is_meant : PartialDate → DatedDay → Bool
is_meant date day = is_in_year (year_of date) day && has_month_and_day date day.label

-- the days that a date means, as the territory dated each of them, of all days of the line
unfoldable pub all_meant : Rules → TerritoryModel → PartialDate → List ℕ
all_meant p t date = filter (λ d. is_meant date (dated_on p t d)) (line p)

-- ---- their runs

-- a run and days after it. A day directly after the run is one more of it, and any other one begins
-- the next run
abbrev pub runs_from : Run → List ℕ → List Run
runs_from run [] = run ∷ []
runs_from run (d ∷ ds) =
    if d == run.last + 1 then runs_from (record { first = run.first; last = d }) ds
    else run ∷ runs_from (record { first = d; last = d }) ds

-- days in order, as runs
abbrev pub runs_of : List ℕ → List Run
runs_of [] = []
runs_of (d ∷ ds) = runs_from (record { first = d; last = d }) ds

-- the days that a date means, as runs
unfoldable pub runs_meant : Rules → TerritoryModel → PartialDate → List Run
runs_meant p t date = runs_of (all_meant p t date)

-- each run has a day, the first one begins after the day that is given, and a day at least lies
-- between each and the next one
abbrev pub LieApartAfter : ℕ → List Run → Type 0
LieApartAfter d [] = Unit {0}
LieApartAfter d (r ∷ rs) = (d < r.first) × (r.first ≤ r.last) × LieApartAfter (r.last + 1) rs

abbrev pub LieApart : List Run → Type 0
LieApart runs = LieApartAfter 0 runs

-- ---- how they are found

-- the days whose label has that year, and the month and day that are written
abbrev pub is_labelled : PartialDate → ℤ → DatedDay → Bool
is_labelled date year day = int_eq day.label.year year && has_month_and_day date day.label

unfoldable pub all_labelled : Rules → TerritoryModel → PartialDate → ℤ → List ℕ
all_labelled p t date year = filter (λ d. is_labelled date year (dated_on p t d)) (line p)

-- a date of a double year means the day
abbrev pub is_meant_double : PartialDate → DatedDay → Bool
is_meant_double date day =
    is_in_double_year (year_of date).first day && has_month_and_day date day.label

unfoldable pub all_double : Rules → TerritoryModel → PartialDate → List ℕ
all_double p t date = filter (λ d. is_meant_double date (dated_on p t d)) (line p)

-- each run has a day
abbrev pub HaveDays : List Run → Type 0
HaveDays [] = Unit {0}
HaveDays (r ∷ rs) = (r.first ≤ r.last) × HaveDays rs

-- a day as a run
abbrev pub run_of_day : ℕ → Run
run_of_day d = record { first = d; last = d }
