-- The days of a feast that is counted from Easter, in a year as a territory counted it. This
-- project's profile, over the Easters that were in force there.
use Rattle.std.specs.Prelude.{ℕ, ◌+◌, ◌-◌, Bool, ◌&&◌, pos, int_le, if◌then◌else◌, List, [], ◌++◌}
use Rattle.std.specs.Prelude.{map, filter, filter_map}
use Rattle.osn_days.specs.Rules.{Rules}
use Rattle.osn_territory.specs.declared.runs.Run.{Run}
use Rattle.osn_territory.specs.Dating.{dated_on}
use Rattle.osn_territory.specs.Easters.{easters}
use Rattle.osn_territory.specs.Territory.{TerritoryModel}
use Rattle.osn_written.specs.declared.any_date.Year.{Year}
use Rattle.osn_written.specs.declared.feast.Feast.{Feast}
use Rattle.osn_written.specs.Feast.{feast_day}
use Rattle.osn_written.specs.Runs.{is_in_year, run_of_day}
use Rattle.osn_written.specs.Union.{union}

-- the year counted from 1 January has figures
abbrev pub has_figures : Rules → ℕ → Bool
has_figures p y = int_le (pos 1) (pos y) && int_le (pos y) (pos p.last_year)

-- the feast's day by each of the Easters of a year counted from 1 January
abbrev pub days_by_easter : Rules → TerritoryModel → Feast → ℕ → List ℕ
days_by_easter p t feast y =
    if has_figures p y then filter_map (λ easter. feast_day p easter feast) (easters p t y) else []

-- the days of a feast by the Easters of the year, of the year before it and of the year after it.
-- No place began a year more than a year before or after 1 January
abbrev pub days_about : Rules → TerritoryModel → Feast → ℕ → List ℕ
days_about p t feast y =
    days_by_easter p t feast (y - 1)
    ++ (days_by_easter p t feast y ++ days_by_easter p t feast (y + 1))

-- the days of the feast that the place dated in the year, as runs in order
unfoldable pub feast_meant : Rules → TerritoryModel → Feast → Year → List Run
feast_meant p t feast year =
    union p (map run_of_day
    (filter (λ d. is_in_year year (dated_on p t d)) (days_about p t feast year.first)))
