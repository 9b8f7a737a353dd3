use Rattle.std.proofs.Common.{rules}
use Rattle.osn_register.proofs.query.Query.borrow.Goals as goal

pub returns-in-DayIn : goal.returns-in-DayIn
returns-in-DayIn c = search rules
