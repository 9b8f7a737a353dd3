use Rattle.std.proofs.Common.{◌≡◌, ◌++◌, drop}
use Rattle.osn_days.specs.Rules.{newest_rules}
use Rattle.osn_core.specs.Machine.{outs_of}
use Rattle.osn_core.proofs.run.run_steps.Given as goal

-- the outs so far and those of the steps that are left are those of all steps
abbrev pub invariant-loop-step : goal.invariant-loop-step
invariant-loop-step l =
    l.outs.items ++ outs_of newest_rules l.core (drop l.step-index l.steps)
    ≡ outs_of newest_rules l.fn.core l.steps
