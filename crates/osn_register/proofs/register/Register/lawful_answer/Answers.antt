use Rattle.std.proofs.Common.{rules}
use Rattle.osn_register.proofs.register.Register.lawful_answer.Goals as goal

pub returns-in-Read : goal.returns-in-Read
returns-in-Read c = search rules
