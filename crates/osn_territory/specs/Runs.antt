-- Days that follow one another, as runs, and the days that a territory dates in a year and in a
-- month of it. This project's profile.
use Rattle.std.specs.Prelude.{ℕ, ◌+◌, ◌-◌, ◌<◌, ◌≤◌, ◌==◌, ◌&&◌, ℤ, List, [], ◌∷◌, filter}
use Rattle.std.specs.List.{range_with_len, flat_map}
use Rattle.std.specs.Ordering.{int_eq}
use Rattle.osn_days.specs.Rules.{Rules}
use Rattle.osn_days.specs.Line.{line}
use Rattle.osn_territory.specs.declared.runs.Run.{Run}
use Rattle.osn_territory.specs.Label.{local_label}
use Rattle.osn_territory.specs.Territory.{TerritoryModel, regime_at}

-- the days of a run, in order
abbrev pub days_of_run : Run → List ℕ
days_of_run r = range_with_len r.first (r.last + 1 - r.first)

-- the days of runs, in the order of the runs
abbrev pub days_in : List Run → List ℕ
days_in runs = flat_map days_of_run runs

-- the first of the runs begins after the day and each other one after the one before it ends. Each
-- has a day
abbrev pub AreRunsAfter : ℕ → List Run → Type 0
AreRunsAfter d [] = Unit {0}
AreRunsAfter d (r ∷ rs) = (d < r.first) × (r.first ≤ r.last) × AreRunsAfter r.last rs

-- each run begins after the one before it ends, and has a day
abbrev pub AreRuns : List Run → Type 0
AreRuns runs = AreRunsAfter 0 runs

-- the days that the territory dates in the year, in order
unfoldable pub days_of_year : Rules → TerritoryModel → ℤ → List ℕ
days_of_year p t y = filter (λ d. int_eq (local_label p (regime_at t d) d).year y) (line p)

-- the days that it dates in the month of the year
unfoldable pub days_of_month : Rules → TerritoryModel → ℤ → ℕ → List ℕ
days_of_month p t y m =
    filter (λ d. int_eq (local_label p (regime_at t d) d).year y
    && ((local_label p (regime_at t d) d).month == m)) (line p)
