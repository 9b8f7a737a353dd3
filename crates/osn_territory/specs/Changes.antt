-- Which changes of regime a territory takes, and what they do to its starts: this project's
-- profile.
use Rattle.std.specs.Prelude.{ℕ, Bool, not, ◌==◌, nat_lt, if◌then◌else◌, List, [], ◌∷◌, map, filter}
use Rattle.std.specs.Prelude.{Option, Some, None}
use Rattle.std.specs.List.{list_any}
use Rattle.osn_territory.specs.declared.regime.Regime.{Regime}
use Rattle.osn_territory.specs.declared.fault.LandFault.{LandFault}
use Rattle.osn_territory.specs.declared.fault.LandFault.TheVariants.{ChangeExists, NoSuchChange}
use Rattle.osn_territory.specs.declared.fault.LandFault.TheVariants.{OpeningPeriod}
use Rattle.osn_territory.specs.declared.fault.LandFault.TheVariants.{StyleNeedsJulian}
use Rattle.osn_territory.specs.Style.{lacks_julian}
use Rattle.osn_territory.specs.Territory.{TerritoryModel}

-- a period starts on the day
abbrev pub starts_on : TerritoryModel → ℕ → Bool
starts_on t d = list_any (λ s. s.0 == d) t.starts

-- why no period has a regime, if none has
abbrev pub regime_fault : Regime → Option LandFault
regime_fault r = if lacks_julian r then Some StyleNeedsJulian else None

-- why a change to a regime is not added on a day, if it is not
abbrev pub add_fault : TerritoryModel → ℕ → Regime → Option LandFault
add_fault t d r =
    if d == 1 then Some OpeningPeriod
    else (if starts_on t d then Some ChangeExists else regime_fault r)

-- why the regime that starts on a day is not altered
abbrev pub alter_fault : TerritoryModel → ℕ → Regime → Option LandFault
alter_fault t d r = if starts_on t d then regime_fault r else Some NoSuchChange

-- why the change on a day is not dropped
abbrev pub drop_fault : TerritoryModel → ℕ → Option LandFault
drop_fault t d =
    if d == 1 then Some OpeningPeriod else (if starts_on t d then None else Some NoSuchChange)

-- ascending starts with one more, in its place
abbrev pub with_start : ℕ → Regime → List (ℕ × Regime) → List (ℕ × Regime)
with_start d regime [] = (d, regime) ∷ []
with_start d regime (s ∷ rest) =
    if nat_lt d s.0 then (d, regime) ∷ s ∷ rest else s ∷ with_start d regime rest

-- another regime from a day on
abbrev pub with_change : TerritoryModel → ℕ → Regime → TerritoryModel
with_change t d regime = record t { starts = with_start d regime t.starts }

-- another regime from the same day on
abbrev pub with_altered : TerritoryModel → ℕ → Regime → TerritoryModel
with_altered t d regime =
    record t { starts = map (λ s. if s.0 == d then (d, regime) else s) t.starts }

-- no change on that day, so that the regime before it goes on
abbrev pub without_change : TerritoryModel → ℕ → TerritoryModel
without_change t d = record t { starts = filter (λ s. not (s.0 == d)) t.starts }
