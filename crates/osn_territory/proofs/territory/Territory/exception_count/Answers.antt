use Rattle.std.proofs.Common.{subst}
use Rattle.std.proofs.lemmas.Map.Keys.{IsStrictlyIncreasing-from_sorted}
use Rattle.std.specs.Map.{keys_of}
use Rattle.osn_territory.specs.Exceptions.{HasAscendingYears}
use Rattle.osn_territory.proofs.territory.Territory.exception_count.Goals as goal

pub returns-clause-ascending : goal.returns-clause-ascending
returns-clause-ascending c =
    subst HasAscendingYears c.self.view_is
    (IsStrictlyIncreasing-from_sorted (keys_of c.self.inside.exceptions.entries)
    c.len.ensures.ordered)
