use Rattle.std.proofs.Common.{rules}
use Rattle.osn_register.proofs.borrowed_query.BorrowedQuery.to_query.Goals as goal

pub returns-clause-value : goal.returns-clause-value
returns-clause-value c = search rules
