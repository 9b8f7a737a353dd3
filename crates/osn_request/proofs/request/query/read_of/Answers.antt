use Rattle.std.proofs.Common.{rules}
use Rattle.osn_request.specs.QueryRequest.{read_of}
use Rattle.osn_request.proofs.request.query.read_of.Goals as goal

pub returns : goal.returns
unfolding read_of
returns c = search rules
