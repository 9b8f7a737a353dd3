use Rattle.std.proofs.Common.{rules}
use Rattle.serde_json.specs.Data.{object}
use Rattle.osn_request.specs.Flat.{flat_members}
use Rattle.osn_request.proofs.TextLemmas.{some_text}
use Rattle.osn_request.proofs.request.object_in.Goals as goal

pub returns-in-Some-clause-text : goal.returns-in-Some-clause-text
returns-in-Some-clause-text c =
    some_text c.args.text.now (object (flat_members c.in-Some.object)) (search rules)
