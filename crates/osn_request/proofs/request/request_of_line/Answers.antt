use Rattle.std.proofs.Common.{rules}
use Rattle.osn_request.proofs.request.request_of_line.Goals as goal

pub returns-clause-request : goal.returns-clause-request
returns-clause-request c = search rules

pub returns-in_err-line_request_of-clause-request :
    goal.returns-in_err-line_request_of-clause-request
returns-in_err-line_request_of-clause-request c = search rules
