use Rattle.std.proofs.Common.{◌++◌, sym, ap, ◌∙◌, rules}
use Rattle.std.proofs.lemmas.List.{append-nil, drop_all}
use Rattle.osn_days.specs.Rules.{newest_rules}
use Rattle.osn_core.specs.Machine.{outs_of}
use Rattle.osn_core.proofs.run.run_steps.Goals as goal

pub returns-clause-outs : goal.returns-clause-outs
returns-clause-outs c =
    sym (append-nil c.loop-step.outs.items)
    ∙ ap (λ left. c.loop-step.outs.items ++ outs_of newest_rules c.loop-step.core left)
    (sym (drop_all c.loop-step.step-index c.args.steps.now c.loop-step-test.false))
    ∙ c.loop-step.invariant

pub returns-in_err-take-clause-refused : goal.returns-in_err-take-clause-refused
returns-in_err-take-clause-refused c = search rules
