use Rattle.std.proofs.Common.{rules}
use Rattle.osn_register.proofs.refusal.Refusal.number.Goals as goal

pub returns-in-JournalFull : goal.returns-in-JournalFull
returns-in-JournalFull c = search rules
