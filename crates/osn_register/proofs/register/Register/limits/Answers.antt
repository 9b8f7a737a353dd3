use Rattle.std.proofs.Common.{rules}
use Rattle.osn_register.proofs.register.Register.limits.Goals as goal

pub returns-clause-value : goal.returns-clause-value
returns-clause-value c = search rules

pub returns-clause-well_formed : goal.returns-clause-well_formed
returns-clause-well_formed c = search rules
