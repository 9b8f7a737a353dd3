use Rattle.std.proofs.Common.{rules}
use Rattle.osn_request.proofs.request.line_request.line_request_of.Goals as goal

pub returns-in-Publish-clause-request : goal.returns-in-Publish-clause-request
returns-in-Publish-clause-request c = search rules
