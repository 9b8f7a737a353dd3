-- The days of a date's month and day in the nearest years that have them. This project's profile.
use Rattle.std.specs.Prelude.{ℕ, pos, ◌-ℤ◌, ◌+◌, List, [], ◌∷◌, ◌++◌, map, ℤ}
use Rattle.std.specs.List.{range_with_len}
use Rattle.osn_days.specs.Rules.{Rules}
use Rattle.osn_territory.specs.declared.dating.DatedDay.{DatedDay}
use Rattle.osn_territory.specs.Dating.{dated_on}
use Rattle.osn_territory.specs.Territory.{TerritoryModel, reading}
use Rattle.osn_written.specs.declared.written_date.WrittenDate.{WrittenDate}

-- the days of the date's month and day in another year, as the territory counted it
abbrev pub days_in_year : Rules → TerritoryModel → WrittenDate → ℤ → List ℕ
days_in_year p t w year = reading p t (record { year = year; month = w.month; day = w.day })

-- the days with the date in the year this many years before the date's, and in the year this many
-- after it
unfoldable pub days_apart : Rules → TerritoryModel → WrittenDate → ℕ → List ℕ
days_apart p t w years =
    days_in_year p t w (pos w.year -ℤ pos years) ++ days_in_year p t w (pos (w.year + years))

-- the first list that has a day
abbrev pub first_with_days : List (List ℕ) → List ℕ
first_with_days [] = []
first_with_days ([] ∷ rest) = first_with_days rest
first_with_days ((d ∷ ds) ∷ rest) = d ∷ ds

-- the days with the date in the nearest years that have some, at most this many years before or
-- after
unfoldable pub nearest_within : Rules → TerritoryModel → WrittenDate → ℕ → List ℕ
nearest_within p t w most = first_with_days (map (days_apart p t w) (range_with_len 1 most))

-- the days with the date in the nearest of all years that a label may have
abbrev pub nearest_days : Rules → TerritoryModel → WrittenDate → List ℕ
nearest_days p t w = nearest_within p t w 10000

-- the nearest days with the date, as the territory dated them
abbrev pub nearest : Rules → TerritoryModel → WrittenDate → List DatedDay
nearest p t w = map (dated_on p t) (nearest_days p t w)
