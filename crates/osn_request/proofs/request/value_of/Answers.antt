use Rattle.std.proofs.Common.{rules}
use Rattle.serde_json.specs.View.{view}
use Rattle.osn_request.proofs.TextLemmas.{some_text}
use Rattle.osn_request.proofs.request.value_of.Goals as goal

pub returns-in-Ok-clause-text : goal.returns-in-Ok-clause-text
returns-in-Ok-clause-text c = some_text c.args.text.now (view c.in-Ok.value) (search rules)
