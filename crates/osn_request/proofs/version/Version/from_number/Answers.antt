use Rattle.std.proofs.Common.{rules}
use Rattle.osn_request.proofs.version.Version.from_number.Goals as goal

pub returns-in-2 : goal.returns-in-2
returns-in-2 c = search rules
