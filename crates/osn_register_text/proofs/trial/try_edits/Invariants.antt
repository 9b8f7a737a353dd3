use Rattle.std.proofs.Common.{take}
use Rattle.osn_register_text.proofs.EditTrials.{HasTaken}
use Rattle.osn_register_text.proofs.trial.try_edits.Given as goal

-- the draft has taken the edits so far
abbrev pub invariant-loop-edit : goal.invariant-loop-edit
invariant-loop-edit l =
    HasTaken l.register.limits l.register.territories (take l.edit-index l.edits) l.draft.limits
    l.draft.territories
