use Rattle.std.proofs.Common.{ap, subst, ◌∙◌}
use Rattle.osn_days.specs.Rules.{newest_rules}
use Rattle.osn_register.specs.Refusal.{IsCheckOf}
use Rattle.osn_core.specs.Sequential.{stage_refusal}
use Rattle.osn_core.proofs.DraftFacts.{edit_refused}
use Rattle.osn_core.proofs.live_and_standby.LiveAndStandby.check.Goals as goal

pub returns-clause-test : goal.returns-clause-test
returns-clause-test c = subst (λ r. IsCheckOf r c.check.result)
    (edit_refused c.self.inside.draft c.self.inside.batches.items c.args.edit.now
    c.self.invariant.draft
    ∙ ap (λ s. stage_refusal newest_rules s.object c.args.edit.now) c.self.view_is)
    c.check.ensures.test
