use Rattle.std.proofs.Common.{arith}
use Rattle.std.proofs.lemmas.Grind.{common_steps}
use Rattle.osn_register.proofs.register.Register.check_add_land.Goals as goal

pub returns : goal.returns
returns c = grind (arith, common_steps)
