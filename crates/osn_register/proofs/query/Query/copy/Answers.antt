use Rattle.std.proofs.Common.{rules}
use Rattle.osn_register.proofs.query.Query.copy.Goals as goal

pub returns-in-YearFigures-clause-value : goal.returns-in-YearFigures-clause-value
returns-in-YearFigures-clause-value c = search rules
