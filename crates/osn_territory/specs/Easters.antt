-- The days that were Easter in a territory: this project's profile, over the Easters of both rules.
use Rattle.std.specs.Prelude.{ℕ, Bool, false, ◌==◌, List, [], ◌∷◌, filter, Option, Some, None}
use Rattle.osn_computus.specs.declared.rule.Rule.{Rule}
use Rattle.osn_computus.specs.Easter.{easter_of}
use Rattle.osn_days.specs.Rules.{Rules}
use Rattle.osn_days.specs.Line.{line}
use Rattle.osn_territory.specs.Territory.{TerritoryModel, regime_at}
use Rattle.osn_territory.specs.Exceptions.{exception_of}

abbrev pub is_on : Option ℕ → ℕ → Bool
is_on None d = false
is_on (Some easter) d = easter == d

-- the day is Easter of the year by a rule
abbrev pub is_easter : Rules → Rule → ℕ → ℕ → Bool
is_easter p rule y d = is_on (easter_of p rule y) d

-- the days that are Easter of the year by the rule in force on that very day, in order: none, one
-- or two
unfoldable pub easters_by_rule : Rules → TerritoryModel → ℕ → List ℕ
easters_by_rule p t y = filter (λ d. is_easter p (regime_at t d).rule y d) (line p)

abbrev pub unless_listed : Option ℕ → List ℕ → List ℕ
unless_listed None by_rule = by_rule
unless_listed (Some d) by_rule = d ∷ []

-- the Easters of a year in a territory: the listed day alone if one is listed, otherwise those by
-- the rules
abbrev pub easters : Rules → TerritoryModel → ℕ → List ℕ
easters p t y = unless_listed (exception_of t y) (easters_by_rule p t y)
