use Rattle.std.proofs.Common.{◌≡◌, ◌∙◌, refl, ap, sym, subst, true, List, IfOk, OnErr}
use Rattle.osn_days.specs.Rules.{newest_rules}
use Rattle.osn_register.specs.declared.limits.Limits.{Limits}
use Rattle.osn_register.specs.declared.edit.Edit.{Edit}
use Rattle.osn_register.specs.Answer.{takes_memory}
use Rattle.osn_core.specs.Sequential.{reply_at}
use Rattle.osn_live.specs.declared.protocol.Origin.{Origin}
use Rattle.osn_live.specs.Certificate.{CertificateState}
use Rattle.osn_live.specs.Running.{EditionState}
use Rattle.osn_live.proofs.OneRule.{finds}
use Rattle.osn_live.proofs.reader.look.Goals as goal

pub enter_as-requires : goal.enter_as-requires
enter_as-requires c x = finds _ _ x x refl

pub returns-in-Ok-clause-answer : goal.returns-in-Ok-clause-answer
returns-in-Ok-clause-answer c o at =
    let x = c.get-in-Ok.result.now in
    let k = c.certificate-certificate.result in
    let q = c.args.query.now in
    let here = c.in-Ok.ensures.1.known o at in
    let certificate : k ≡ c.in-Ok.reading.part.value.certificate =
    c.certificate-certificate.ensures
    ∙ ap (λ (y : EditionState). y.certificate) c.get.ensures in
    let limits : x.limits ≡ o.limits =
    ap (λ (y : EditionState). y.limits) c.get-in-Ok.ensures
    ∙ ap (λ (p : Origin). p.limits) here in
    let batches : x.certificate.batches ≡ k.batches =
    ap (λ (y : EditionState). y.certificate.batches) c.get-in-Ok.ensures
    ∙ ap (λ (i : CertificateState). i.batches) (sym certificate) in
    let Is : Limits → List (List Edit) → Type 0 = λ l bs.
    IfOk c.ask-answer.result (λ r. r ≡ reply_at newest_rules l bs q)
    × OnErr c.ask-answer.result (takes_memory (reply_at newest_rules l bs q).answer ≡ true) in
    let answer : Is o.limits k.batches = subst (λ l. Is l k.batches) limits
    (subst (Is x.limits) batches (c.ask-answer.ensures.value, c.ask-answer.ensures.memory)) in (
      ap (λ (i : CertificateState). i.book) certificate ∙ ap (λ (p : Origin). p.book) here,
      answer.0,
      answer.1,
    )
