-- The principal feasts that a territory dated in a year, as it counted the year. This project's
-- profile, over the Easters that were in force there.
use Rattle.std.specs.Prelude.{ℕ, ◌+◌, ◌-◌, Bool, if◌then◌else◌, pos, List, [], ◌∷◌, ◌++◌}
use Rattle.std.specs.Prelude.{Option, Some, None}
use Rattle.std.specs.List.{flat_map}
use Rattle.std.specs.Ordering.{int_eq}
use Rattle.osn_days.specs.Rules.{Rules}
use Rattle.osn_territory.specs.Dating.{dated_on}
use Rattle.osn_territory.specs.Easters.{easters}
use Rattle.osn_territory.specs.Territory.{TerritoryModel}
use Rattle.osn_written.specs.declared.feast.Feast.{Feast}
use Rattle.osn_written.specs.declared.feast.Feast.TheVariants.{Septuagesima, AshWednesday, Easter}
use Rattle.osn_written.specs.declared.feast.Feast.TheVariants.{Ascension, Pentecost, Trinity}
use Rattle.osn_written.specs.declared.year_feasts.FeastDay.{FeastDay}
use Rattle.osn_written.specs.Feast.{feast_day}
use Rattle.osn_written.specs.FeastDays.{has_figures}

-- the feasts that an almanac has, in order
abbrev pub principal_feasts : List Feast
principal_feasts = Septuagesima ∷ AshWednesday ∷ Easter ∷ Ascension ∷ Pentecost ∷ Trinity ∷ []

-- the territory dates the day in the year
abbrev pub is_dated_in : Rules → TerritoryModel → ℕ → ℕ → Bool
is_dated_in p t year d = int_eq (dated_on p t d).label.year (pos year)

-- a feast on its day, if it has one that the territory dates in the year
abbrev pub feast_on : Rules → TerritoryModel → ℕ → ℕ → Feast → Option ℕ → List FeastDay
feast_on p t year january_year f None = []
feast_on p t year january_year f (Some d) =
    if is_dated_in p t year d then
    record { feast = f; january_year = january_year; day = d } ∷ []
    else []

abbrev pub feast_in : Rules → TerritoryModel → ℕ → ℕ → ℕ → Feast → List FeastDay
feast_in p t year january_year easter f =
    feast_on p t year january_year f (feast_day p easter f)

-- the feasts of a year that are counted from an Easter
abbrev pub feasts_by : Rules → TerritoryModel → ℕ → ℕ → ℕ → List FeastDay
feasts_by p t year january_year easter =
    flat_map (feast_in p t year january_year easter) principal_feasts

-- the feasts of a year that are counted from the Easters of a year from 1 January
abbrev pub feasts_of : Rules → TerritoryModel → ℕ → ℕ → List FeastDay
feasts_of p t year january_year =
    if has_figures p january_year then
    flat_map (feasts_by p t year january_year) (easters p t january_year)
    else []

-- the feasts of a year, by the Easters of the year, of the year before it and of the year after it.
-- No place began a year more than a year before or after 1 January
abbrev pub feasts_of_year : Rules → TerritoryModel → ℕ → List FeastDay
feasts_of_year p t year =
    feasts_of p t year (year - 1) ++ (feasts_of p t year year ++ feasts_of p t year (year + 1))
