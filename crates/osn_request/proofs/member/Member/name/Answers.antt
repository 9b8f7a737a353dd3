use Rattle.std.proofs.Common.{rules}
use Rattle.osn_request.proofs.member.Member.name.Goals as goal

pub returns-in-Month : goal.returns-in-Month
returns-in-Month c = search rules
