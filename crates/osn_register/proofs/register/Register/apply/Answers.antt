use Rattle.std.proofs.Common.{rules}
use Rattle.osn_register.proofs.register.Register.apply.Goals as goal

pub admit-requires : goal.admit-requires
admit-requires c = search rules
