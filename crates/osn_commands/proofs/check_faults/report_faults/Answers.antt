use Rattle.std.proofs.Common.{◌≡◌, ◌∙◌, List, ℕ, ap}
use Rattle.std.proofs.lemmas.Result.{IfOk-weaker}
use Rattle.toml.specs.Parse.{parse_document}
use Rattle.osn_register_text.specs.FurtherFaults.{further_faults}
use Rattle.osn_commands.specs.CheckFaults.{list_of}
use Rattle.osn_commands.proofs.check_faults.report_faults.Goals as goal

pub returns-in-Ok : goal.returns-in-Ok
returns-in-Ok g c =
    let path = c.args.path.now in
    let text = c.args.text.now in
    let first = c.args.first.now in
    let others = λ (code : List ℕ). further_faults c.args.limits code (parse_document text) in
    let found : c.deref.result.now ≡ others first.code =
    c.deref.ensures.value ∙ (c.in-Ok.ensures ∙ ap others c.as_str.ensures.value) in
    c.report_line.ensures (list_of path text first (others first.code))
    (IfOk-weaker c.list_of-lines.result _ _ (λ lines is. is ∙ ap (list_of path text first) found)
    c.list_of-lines.ensures)
