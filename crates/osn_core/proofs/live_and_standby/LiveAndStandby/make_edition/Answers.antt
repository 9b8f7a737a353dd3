use Rattle.std.proofs.Common.{◌≡◌, [], ◌∷◌, ◌++◌, length, None, ap, ◌∙◌, arith}
use Rattle.osn_core.specs.Sequential.{publish_refusal}
use Rattle.osn_core.specs.Draft.{edition_refusal}
use Rattle.osn_core.specs.LiveAndStandbyInside.{CopiesState}
use Rattle.osn_core.proofs.DraftFacts.{edition_refused}
use Rattle.osn_core.proofs.InStep.{one_published}
use Rattle.osn_core.proofs.live_and_standby.LiveAndStandby.make_edition.Goals as goal

pub invariant_of-self-2 : goal.invariant_of-self-2
invariant_of-self-2 c =
    let d = c.self.inside.draft in
    let bs = c.self.inside.batches.items in
    let lawful : edition_refusal d ≡ None = edition_refused d bs c.self.invariant.draft
    ∙ ap (λ (s : CopiesState). publish_refusal s.object) c.self.view_is ∙ c.requires in
    let batches : c.push_reserved.new.self.items ≡ bs ++ d.pending ∷ [] =
    c.push_reserved.ensures.items
    ∙ ap (λ cs. cs ++ c.make_edition-batch.result ∷ []) c.reserve.ensures.items
    ∙ ap (λ b. bs ++ b ∷ []) c.make_edition-batch.ensures.batch in
    let lag : c.len-lag.result ≡ length d.pending =
    omega (arith, c.len-lag.ensures, c.pending.result.now.ok.0, ap length c.pending.ensures) in
    rw (c.make_edition-batch.ensures.after, batches, lag)
    (one_published d bs c.self.inside.lag c.self.inside.other c.self.invariant lawful)
