use Rattle.std.proofs.Common.{subst}
use Rattle.osn_days.specs.Rules.{newest_rules}
use Rattle.osn_register.specs.Refusal.{IsCheckOf}
use Rattle.osn_core.specs.Sequential.{ObjectState, stage_refusal}
use Rattle.osn_core.proofs.object.Object.check.Goals as goal

pub returns-clause-test : goal.returns-clause-test
returns-clause-test c =
    subst (λ (s : ObjectState). IsCheckOf
    (stage_refusal newest_rules s c.args.edit.now) c.check.result)
    c.self.view_is c.check.ensures.test
