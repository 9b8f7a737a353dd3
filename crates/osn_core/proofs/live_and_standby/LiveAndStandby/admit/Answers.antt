use Rattle.std.proofs.Common.{◌≡◌, None, ap, ◌∙◌}
use Rattle.osn_days.specs.Rules.{newest_rules}
use Rattle.osn_core.specs.Sequential.{stage_refusal}
use Rattle.osn_core.specs.Draft.{edit_refusal}
use Rattle.osn_core.specs.LiveAndStandbyInside.{CopiesState}
use Rattle.osn_core.proofs.DraftFacts.{edit_refused}
use Rattle.osn_core.proofs.InStep.{one_staged}
use Rattle.osn_core.proofs.live_and_standby.LiveAndStandby.admit.Goals as goal

pub invariant_of-self-2 : goal.invariant_of-self-2
invariant_of-self-2 c =
    let d = c.self.inside.draft in
    let bs = c.self.inside.batches.items in
    let e = c.args.edit in
    let same = c.self.view_is ∙ c.take_standby.ensures in
    let none : c.self.inside.lag ≡ 0 = ap (λ (s : CopiesState). s.lag) same ∙ c.requires.lag in
    let lawful : edit_refusal d e ≡ None = edit_refused d bs e c.self.invariant.draft
    ∙ ap (λ (s : CopiesState). stage_refusal newest_rules s.object e) same ∙ c.requires.lawful in
    rw c.in_ok-admit.ensures.ok
    (one_staged d bs c.self.inside.lag c.self.inside.other e c.self.invariant none lawful
    c.in_ok-admit.ensures.source)
