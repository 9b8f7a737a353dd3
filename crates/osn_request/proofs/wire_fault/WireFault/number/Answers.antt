use Rattle.std.proofs.Common.{rules}
use Rattle.osn_request.proofs.wire_fault.WireFault.number.Goals as goal

pub returns-in-UnknownReader : goal.returns-in-UnknownReader
returns-in-UnknownReader c = search rules
