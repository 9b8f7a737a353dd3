use Rattle.std.proofs.Common.{ap, sym, ◌∙◌}
use Rattle.serde_json.specs.Read.{read}
use Rattle.osn_request.specs.Request as spec
use Rattle.osn_request.proofs.TextLemmas.{no_text_value, text_value}
use Rattle.osn_request.proofs.request.text_of_whole.Goals as goal

pub returns-in-Ok-clause-object : goal.returns-in-Ok-clause-object
returns-in-Ok-clause-object c =
    ap spec.object_in (text_value c.args.line.now c.in-Ok.ensures.cases.1
    ∙ ap read (sym c.in-Ok.ensures.cases.0))

pub returns-in-Err-clause-object : goal.returns-in-Err-clause-object
returns-in-Err-clause-object c =
    ap spec.object_in (no_text_value c.args.line.now c.in-Err.ensures.cases.0)
