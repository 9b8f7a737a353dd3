use Rattle.std.proofs.Common.{rules}
use Rattle.osn_register.proofs.register.Register.add_land.Goals as goal

pub returns-clause-ok : goal.returns-clause-ok
returns-clause-ok c = search rules
