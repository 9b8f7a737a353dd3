use Rattle.std.proofs.Common.{◌≡◌, None, ap, ◌∙◌}
use Rattle.osn_days.specs.Rules.{newest_rules}
use Rattle.osn_core.specs.Sequential.{stage_refusal}
use Rattle.osn_core.specs.Draft.{edit_refusal}
use Rattle.osn_core.proofs.DraftFacts.{edit_refused, edit_staged}
use Rattle.osn_live.specs.Running.{EditorState}
use Rattle.osn_live.proofs.editor.Editor.admit.Goals as goal

pub admit-requires : goal.admit-requires
admit-requires c =
    edit_refused c.self.inside.draft c.self.inside.certificate.batches c.args.edit
    c.self.invariant.draft
    ∙ ap (λ (v : EditorState). stage_refusal newest_rules v.object c.args.edit) c.self.view_is
    ∙ c.requires

pub invariant_of-self-2 : goal.invariant_of-self-2
invariant_of-self-2 c =
    let d = c.self.inside.draft in
    let batches = c.self.inside.certificate.batches in
    let lawful : edit_refusal d c.args.edit ≡ None =
    edit_refused d batches c.args.edit c.self.invariant.draft
    ∙ ap (λ (v : EditorState). stage_refusal newest_rules v.object c.args.edit) c.self.view_is
    ∙ c.requires in
    rw c.in_ok-admit.ensures.ok (record {
      edition = c.self.invariant.edition;
      known = c.self.invariant.known;
      book = c.self.invariant.book;
      draft = edit_staged d batches c.args.edit c.self.invariant.draft lawful;
    })
