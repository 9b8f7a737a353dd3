-- What a longer line leaves as it was.
use Rattle.std.specs.Prelude.{◌≡◌, ℕ, nat_le, List, filter}
use Rattle.osn_days.specs.Rules.{Rules}
use Rattle.osn_days.specs.Line.{IsYear}
use Rattle.osn_territory.specs.declared.label.Label.{Label}
use Rattle.osn_territory.specs.Territory.{TerritoryModel, reading}
use Rattle.osn_territory.specs.Easters.{easters}

-- of these days, those that the line of the rules has
abbrev pub days_of_line : Rules → List ℕ → List ℕ
days_of_line p days = filter (λ d. nat_le d p.high) days

-- the days of a label that the line of the rules has are the days that these rules read
abbrev pub KeepsReading : Rules → TerritoryModel → Label → List ℕ → Type 0
KeepsReading p t label days = days_of_line p days ≡ reading p t label

-- if the rules have the year, the days are its Easters by these rules
abbrev pub KeepsEasters : Rules → TerritoryModel → ℕ → List ℕ → Type 0
KeepsEasters p t y days = IsYear p y → days ≡ easters p t y
