use Rattle.std.proofs.Common.{◌≡◌, ap, ◌∙◌}
use Rattle.std.proofs.lemmas.Result.{IfOk-weaker}
use Rattle.osn_days.specs.Rules.{newest_rules}
use Rattle.osn_core.specs.Machine.{first_core, outs_of}
use Rattle.osn_core.specs.History.{no_looks}
use Rattle.osn_core.proofs.Editor.{editor_outs_of_run}
use Rattle.osn_core.proofs.Forward.{outs_begin, outs_rise}
use Rattle.osn_core.proofs.run.replay.Goals as goal

pub returns-clause-editor : goal.returns-clause-editor
returns-clause-editor c =
    let first = first_core c.args.limits c.args.readers in
    let begun = ap (λ core. outs_of newest_rules core c.args.steps.now) c.in_ok-core.ensures.ok in
    IfOk-weaker c.run_steps.result _ _ (λ outs all.
    let are : outs.items ≡ outs_of newest_rules first c.args.steps.now = all ∙ begun in
    rw are (editor_outs_of_run newest_rules no_looks first c.args.steps.now))
    c.run_steps.ensures.outs

pub returns-clause-readers : goal.returns-clause-readers
returns-clause-readers c =
    let first = first_core c.args.limits c.args.readers in
    let begun = ap (λ core. outs_of newest_rules core c.args.steps.now) c.in_ok-core.ensures.ok in
    IfOk-weaker c.run_steps.result _ _ (λ outs all reader.
    let are : outs.items ≡ outs_of newest_rules first c.args.steps.now = all ∙ begun in
    rw are (outs_begin newest_rules c.args.limits c.args.readers c.args.steps.now reader))
    c.run_steps.ensures.outs

pub returns-clause-forward : goal.returns-clause-forward
returns-clause-forward c =
    let first = first_core c.args.limits c.args.readers in
    let begun = ap (λ core. outs_of newest_rules core c.args.steps.now) c.in_ok-core.ensures.ok in
    IfOk-weaker c.run_steps.result _ _ (λ outs all reader.
    let are : outs.items ≡ outs_of newest_rules first c.args.steps.now = all ∙ begun in
    rw are (outs_rise newest_rules c.args.limits c.args.readers c.args.steps.now reader))
    c.run_steps.ensures.outs
