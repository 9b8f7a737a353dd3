use Rattle.std.proofs.Common.{◌≡◌, ◌-◌, ◌++◌, drop, length}
use Rattle.osn_register_text.specs.Differences.{edits_for, all_edits}
use Rattle.osn_register_text.proofs.planning.all_edits.Given as goal

-- the edits of the territories that are left are still to come
abbrev pub invariant-loop-code : goal.invariant-loop-code
invariant-loop-code l =
    l.edits.items
    ++ edits_for l.target.territories l.register.territories (drop l.index l.target.territories)
    ≡ all_edits l.target.territories l.register.territories

abbrev pub decreases-loop-code : goal.decreases-loop-code
decreases-loop-code l = length l.target.territories - l.index
