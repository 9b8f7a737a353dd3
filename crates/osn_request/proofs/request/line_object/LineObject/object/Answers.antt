use Rattle.std.proofs.Common.{refl, ap, sym, ◌∙◌, option_and_then}
use Rattle.serde_json.specs.Data.{no_members}
use Rattle.serde_json.specs.Find.{get}
use Rattle.osn_request.specs.LineObject.{if_object, line_data}
use Rattle.osn_request.proofs.FlatLemmas.{no_object}
use Rattle.osn_request.proofs.request.line_object.LineObject.object.Goals as goal

pub returns-in-Flat : goal.returns-in-Flat
returns-in-Flat c =
    sym (ap (λ o. option_and_then if_object (get c.args.name.now (line_data o))) c.in-Flat.is
    ∙ no_object c.args.name.now c.in-Flat.field-0.members.items no_members refl)
