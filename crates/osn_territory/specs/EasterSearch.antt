-- How the Easters of a territory are found, rule by rule.
use Rattle.std.specs.Prelude.{ℕ, ◌&&◌, nat_le, Bool, true}
use Rattle.std.specs.Prelude.{false, if◌then◌else◌, Option, Some, None, List, [], ◌∷◌}
use Rattle.std.specs.Prelude.{filter}
use Rattle.osn_computus.specs.declared.rule.Rule.{Rule}
use Rattle.osn_computus.specs.declared.rule.Rule.TheVariants.{Julian, Gregorian}
use Rattle.osn_days.specs.Rules.{Rules}
use Rattle.osn_days.specs.Line.{line}
use Rattle.osn_territory.specs.Territory.{TerritoryModel, regime_at}
use Rattle.osn_territory.specs.Easters.{is_easter}

-- the two rules are one
abbrev pub is_rule : Rule → Rule → Bool
is_rule Julian Julian = true
is_rule Julian Gregorian = false
is_rule Gregorian Julian = false
is_rule Gregorian Gregorian = true

-- the days that are Easter of the year by the rule, which is in force on them
unfoldable pub easters_in_force : Rules → TerritoryModel → Rule → ℕ → List ℕ
easters_in_force p t rule y =
    filter (λ d. is_rule (regime_at t d).rule rule && is_easter p rule y d) (line p)

-- one day and another, in order
abbrev pub days_in_order : Option ℕ → Option ℕ → List ℕ
days_in_order None None = []
days_in_order None (Some b) = b ∷ []
days_in_order (Some a) None = a ∷ []
days_in_order (Some a) (Some b) = if nat_le a b then a ∷ b ∷ [] else b ∷ a ∷ []
