use Rattle.std.proofs.Common.{rules}
use Rattle.osn_request.proofs.wire_fault.WireFault.name.Goals as goal

pub returns-in-NotObject : goal.returns-in-NotObject
returns-in-NotObject c = search rules
