use Rattle.std.proofs.Common.{arith, string_bytes}
use Rattle.osn_register.specs.Plain.{sources_of}
use Rattle.osn_register_text.proofs.TextSteps.{change_step, changes_end}
use Rattle.osn_register_text.proofs.changes.push_changes.Goals as goal

pub loop-period-preserved : goal.loop-period-preserved
loop-period-preserved c =
    change_step c.args.code.now (sources_of c.args.code.now c.args.register.now.territories)
    c.loop-period.before c.args.periods.now c.loop-period.period-index
    c.period-item.result _ (string_bytes c.loop-period.out) (string_bytes c.push_change.new.out)
    (omega arith) c.period-item.is c.loop-period.invariant c.in_ok-push_change.ensures

pub returns : goal.returns
returns c =
    changes_end c.args.code.now (sources_of c.args.code.now c.args.register.now.territories)
    c.loop-period.before c.args.periods.now c.loop-period.period-index _
    (string_bytes c.loop-period.out) (omega arith) c.loop-period.invariant
