use Rattle.std.proofs.Common.{ap, subst, ◌∙◌}
use Rattle.osn_days.specs.Rules.{newest_rules}
use Rattle.osn_register.specs.Refusal.{IsCheckOf}
use Rattle.osn_core.specs.Sequential.{stage_refusal}
use Rattle.osn_core.proofs.DraftFacts.{edit_refused}
use Rattle.osn_live.specs.Running.{EditorState}
use Rattle.osn_live.proofs.editor.Editor.check.Goals as goal

pub returns : goal.returns
returns c = subst (λ r. IsCheckOf r c.check.result)
    (edit_refused c.self.inside.draft c.self.inside.certificate.batches c.args.edit.now
    c.self.invariant.draft
    ∙ ap (λ (v : EditorState). stage_refusal newest_rules v.object c.args.edit.now)
    c.self.view_is)
    c.check.ensures.test
