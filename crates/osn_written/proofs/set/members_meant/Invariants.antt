use Rattle.std.proofs.Common.{◌≡◌, drop}
use Rattle.osn_days.specs.Rules.{newest_rules}
use Rattle.osn_written.specs.SetsMeant.{members_meant}
use Rattle.osn_written.proofs.UnionFacts.{after_runs}
use Rattle.osn_written.proofs.set.members_meant.Given as goal

-- the runs so far come before those of what is left
abbrev pub invariant-loop-member : goal.invariant-loop-member
invariant-loop-member l =
    members_meant newest_rules l.territory l.members
    ≡ after_runs l.runs.items
    (members_meant newest_rules l.territory (drop l.member-index l.members))
