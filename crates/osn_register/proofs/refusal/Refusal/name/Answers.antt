use Rattle.std.proofs.Common.{rules}
use Rattle.osn_register.proofs.refusal.Refusal.name.Goals as goal

pub returns-in-BadDate : goal.returns-in-BadDate
returns-in-BadDate c = search rules
