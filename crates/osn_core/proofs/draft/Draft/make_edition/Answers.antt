use Rattle.std.proofs.Common.{arith, ap, ◌∙◌}
use Rattle.osn_register.specs.declared.limits.Limits.{Limits}
use Rattle.osn_core.specs.Draft.{edition_refusal}
use Rattle.osn_core.specs.DraftInside.{draft_in}
use Rattle.osn_core.proofs.DraftFacts.{has_edits}
use Rattle.osn_core.proofs.draft.Draft.make_edition.Goals as goal

pub overflow_add-self : goal.overflow_add-self
overflow_add-self c =
    let granted = ap edition_refusal c.self.view_is ∙ c.requires in
    let room = has_edits (draft_in c.self.inside) granted in
    omega (arith, room.1, ap (λ (l : Limits). l.editions) c.limits-most.ensures.value)
