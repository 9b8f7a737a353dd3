use Rattle.std.proofs.Common.{rules}
use Rattle.osn_request.proofs.version.Version.number.Goals as goal

pub returns-in-Second : goal.returns-in-Second
returns-in-Second c = search rules
