use Rattle.std.proofs.Common.{arith, ap, ◌∙◌}
use Rattle.osn_register.specs.declared.limits.Limits.{Limits}
use Rattle.osn_core.specs.Draft.{DraftState, edit_refusal}
use Rattle.osn_core.specs.DraftInside.{draft_in}
use Rattle.osn_core.proofs.DraftFacts.{has_room}
use Rattle.osn_core.proofs.draft.Draft.admit.Goals as goal

pub overflow_add-self : goal.overflow_add-self
overflow_add-self c =
    let room = has_room (draft_in c.self.inside) c.args.edit
    (ap (λ (d : DraftState). edit_refusal d c.args.edit) c.self.view_is ∙ c.requires) in
    omega (arith, room, ap (λ (l : Limits). l.edits) c.limits-most.ensures.value)
