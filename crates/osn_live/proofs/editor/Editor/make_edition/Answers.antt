use Rattle.std.proofs.Common.{rules, ◌≡◌, [], ◌∷◌, ◌++◌, List, ap, ◌∙◌}
use Rattle.osn_days.specs.Rules.{newest_rules}
use Rattle.osn_register.specs.declared.edit.Edit.{Edit}
use Rattle.osn_register.specs.Plain.{EntryModel}
use Rattle.osn_core.specs.Draft.{object_of, IsDraftOf}
use Rattle.osn_core.proofs.DraftFacts.{draft_register, edition_made}
use Rattle.osn_live.specs.Certificate.{CertificateState}
use Rattle.osn_live.proofs.editor.Editor.make_edition.Goals as goal

pub new-next-requires : goal.new-next-requires
new-next-requires g c =
    let d = c.self.inside.draft in
    let batches = c.self.inside.certificate.batches in
    let now : c.in-Some.certificate.batches ≡ batches ++ d.pending ∷ [] =
    ap (λ (k : CertificateState). k.batches) c.in-Some.ensures
    ∙ ap (λ (es : List Edit). batches ++ es ∷ []) c.pending.ensures in
    rw (c.limits.ensures, c.again.ensures, now) (c.in-Ok.ensures.ok
    ∙ c.in_ok-register_copy.ensures.value
    ∙ c.register.ensures
    ∙ ap (λ (ls : List EntryModel). record { limits = d.register.limits; territories = ls })
    (c.self.invariant.draft.territories ∙ draft_register newest_rules (object_of d batches)))

pub invariant_of-self-2 : goal.invariant_of-self-2
invariant_of-self-2 g c =
    let d = c.self.inside.draft in
    let batches = c.self.inside.certificate.batches in
    let now : c.in-Some.certificate.batches ≡ batches ++ d.pending ∷ [] =
    ap (λ (k : CertificateState). k.batches) c.in-Some.ensures
    ∙ ap (λ (es : List Edit). batches ++ es ∷ []) c.pending.ensures in
    let draft : IsDraftOf c.make_edition-published.new.self c.in-Some.certificate.batches =
    rw (c.make_edition-published.ensures.after, now)
    (edition_made d batches c.self.invariant.draft) in
    record {
      edition = search rules;
      known = search rules;
      book = search rules;
      draft = draft;
    }
