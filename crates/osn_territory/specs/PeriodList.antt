-- The list of periods that a territory keeps, and the starts that it represents.
use Rattle.std.specs.Prelude.{ℕ, ◌≤◌, ◌==◌, ◌&&◌, nat_le, Bool}
use Rattle.std.specs.Prelude.{not, if◌then◌else◌, List}
use Rattle.std.specs.Prelude.{filter, map}
use Rattle.std.specs.List.{list_any}
use Rattle.osn_days.specs.Rules.{newest_rules}
use Rattle.osn_territory.specs.declared.regime.Regime.{Regime}
use Rattle.osn_territory.specs.declared.period.Period.{Period}
use Rattle.osn_territory.specs.declared.territory.Territory.TheInside.{Inside}
use Rattle.osn_territory.specs.Territory.{TerritoryModel, CoversLine}

abbrev pub start_of : Period → ℕ × Regime
start_of p = (p.first, p.regime)

-- one of the periods starts on the day
abbrev pub has_start : ℕ → List Period → Bool
has_start d ps = list_any (λ s. s.0 == d) (map start_of ps)

-- the starts, with another regime from one of them on
abbrev pub with_regime : ℕ → Regime → List (ℕ × Regime) → List (ℕ × Regime)
with_regime d regime starts = map (λ s. if s.0 == d then (d, regime) else s) starts

-- the starts without that day
abbrev pub without_start : ℕ → List (ℕ × Regime) → List (ℕ × Regime)
without_start d starts = filter (λ s. not (s.0 == d)) starts

abbrev pub territory_in : Inside → TerritoryModel
territory_in t = record { starts = map start_of t.periods.items; exceptions = t.exceptions.entries }

-- from day 1 to the end of the line, each day in one period, in order
abbrev pub IsWhole : Inside → Type 0
IsWhole t = CoversLine newest_rules t.periods.items

-- the period is of days of the line, and has one
abbrev pub IsWithinLine : Period → Type 0
IsWithinLine p = (1 ≤ p.first) × (p.first ≤ p.last) × (p.last ≤ newest_rules.high)

-- the day is one of the period's
abbrev pub is_held : Period → ℕ → Bool
is_held p d = nat_le p.first d && nat_le d p.last
