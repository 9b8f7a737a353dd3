use Rattle.std.proofs.Common.{◌≤◌, ◌+◌, drop}
use Rattle.osn_days.specs.Rules.{newest_rules}
use Rattle.osn_written.proofs.UnionFacts.{IsRestBefore}
use Rattle.osn_written.proofs.union.without_overlap.Given as goal

abbrev pub invariant-loop-run : goal.invariant-loop-run
invariant-loop-run l =
    IsRestBefore newest_rules l.runs l.rest.items l.next (drop l.run-index l.runs)
    × (1 ≤ l.next) × (l.next ≤ newest_rules.high + 1)
