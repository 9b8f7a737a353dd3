use Rattle.std.proofs.Common.{◌≡◌, ◌++◌}
use Rattle.toml.specs.View.{members_view}
use Rattle.osn_register_text.specs.FurtherFaults.{faults_of_others}
use Rattle.osn_register_text.proofs.other_faults.faults_of_others.Given as goal

-- The faults of the territories that are left, after those so far, are the faults of all.
abbrev pub invariant-loop-other : goal.invariant-loop-other
invariant-loop-other l =
    faults_of_others l.limits l.code (members_view l.table.entries)
    ≡ l.faults.items ++ faults_of_others l.limits l.code (members_view l.other-iterator)
