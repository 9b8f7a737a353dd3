use Rattle.std.proofs.Common.{rules}
use Rattle.osn_register.proofs.register.Register.apply_if_lawful.Goals as goal

pub returns-in-Ok-clause-ok : goal.returns-in-Ok-clause-ok
returns-in-Ok-clause-ok c = search rules
