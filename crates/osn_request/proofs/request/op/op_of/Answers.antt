use Rattle.std.proofs.Common.{rules}
use Rattle.osn_request.proofs.request.op.op_of.Goals as goal

pub returns-in-None : goal.returns-in-None
returns-in-None c = search rules
