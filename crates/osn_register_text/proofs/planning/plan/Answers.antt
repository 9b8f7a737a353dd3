use Rattle.osn_register_text.specs.Fault.{IsFault}
use Rattle.osn_register_text.proofs.ChangeEdits.{handed_on}
use Rattle.osn_register_text.proofs.Whole.{planned, not_planned}
use Rattle.osn_register_text.proofs.planning.plan.Goals as goal

pub returns-in_err-try_edits-clause-err : goal.returns-in_err-try_edits-clause-err
returns-in_err-try_edits-clause-err c =
    handed_on (IsFault c.args.register.now.limits c.args.target.now.territories
    c.args.register.now.territories)
    c.from_residual-in_err-try_edits.result c.in_err-try_edits.field-0.0
    c.from_residual-in_err-try_edits.ensures.1
    (not_planned c.args.target.now c.args.register.now c.limits-2.ensures.well_formed
    c.limits.ensures.well_formed c.in_ok-check_names.ensures.ok c.in_ok-edits.edits.items
    c.as_slice.result.now c.in_ok-edits.ensures c.as_slice.ensures.value
    c.in_err-try_edits.field-0.0 c.in_err-try_edits.ensures.err)

pub returns-clause-ok : goal.returns-clause-ok
returns-clause-ok c =
    planned c.args.target.now c.args.register.now c.limits-2.ensures.well_formed
    c.limits.ensures.well_formed c.in_ok-check_names.ensures.ok c.in_ok-edits.edits.items
    c.as_slice.result.now c.in_ok-edits.ensures c.as_slice.ensures.value
    c.in_ok-try_edits.ensures.lawful c.in_ok-try_edits.ensures.well_formed
