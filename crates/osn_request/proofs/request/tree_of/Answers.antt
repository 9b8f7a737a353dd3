use Rattle.std.proofs.Common.{rules}
use Rattle.osn_request.proofs.request.tree_of.Goals as goal

pub returns-clause-object : goal.returns-clause-object
returns-clause-object c = search rules
