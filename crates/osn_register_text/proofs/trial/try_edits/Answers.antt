use Rattle.std.proofs.Common.{◌+◌, take, subst, sym, arith}
use Rattle.osn_register.specs.Plain.{RegisterModel}
use Rattle.osn_register_text.specs.Fault.{IsTrialFault}
use Rattle.osn_register_text.proofs.ChangeEdits.{handed_on}
use Rattle.osn_register_text.proofs.EditTrials.{HasTaken, taken_more, not_taken}
use Rattle.osn_register_text.proofs.trial.try_edits.Goals as goal

pub returns-in_err-check_edit-clause-err : goal.returns-in_err-check_edit-clause-err
returns-in_err-check_edit-clause-err c =
    handed_on (IsTrialFault c.args.register.now.limits c.args.register.now.territories
    c.args.edits.now) c.from_residual-in_err-check_edit.result c.in_err-check_edit.field-0.0
    c.from_residual-in_err-check_edit.ensures.1
    (not_taken c.args.register.now.limits c.args.register.now.territories c.args.edits.now
    c.loop-edit.draft.limits c.loop-edit.draft.territories c.loop-edit.edit-index c.edit-item.result
    (omega arith) c.edit-item.is c.loop-edit.invariant c.in_err-check_edit.field-0.0
    c.in_err-check_edit.ensures.err)

pub loop-edit-preserved : goal.loop-edit-preserved
loop-edit-preserved c =
    subst (λ (r : RegisterModel). HasTaken c.args.register.now.limits
    c.args.register.now.territories
    (take (c.loop-edit.edit-index + 1) c.args.edits.now) r.limits r.territories)
    (sym c.in_ok-admit.ensures.ok)
    (taken_more c.args.register.now.limits c.args.register.now.territories c.args.edits.now
    c.loop-edit.draft.limits c.loop-edit.draft.territories c.loop-edit.edit-index c.edit-item.result
    (omega arith) c.edit-item.is c.loop-edit.invariant c.in_ok-check_edit.ensures.ok)
