use Rattle.std.proofs.Common.{◌≡◌, ℕ, List, drop}
use Rattle.osn_letters.specs.FinderInside.{found_in}
use Rattle.osn_letters.specs.TerritoryNames.{only_called}
use Rattle.osn_letters.proofs.NameFacts.{with_rest}
use Rattle.osn_letters.proofs.territory_finder.names_in.Given as goal

-- the map and those that are left decide
abbrev pub invariant-loop-index : goal.invariant-loop-index
invariant-loop-index l = (text : List ℕ) →
    with_rest text (found_in l.names text) (drop l.index l.register.territories)
    ≡ only_called text l.register.territories
