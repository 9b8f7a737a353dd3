use Rattle.std.proofs.Common.{rules}
use Rattle.osn_register.proofs.limits.Limits.standard.Goals as goal

pub returns : goal.returns
returns c = search rules
