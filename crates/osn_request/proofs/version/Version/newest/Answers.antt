use Rattle.std.proofs.Common.{rules}
use Rattle.osn_request.proofs.version.Version.newest.Goals as goal

pub returns : goal.returns
returns c = search rules
