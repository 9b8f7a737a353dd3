use Rattle.std.proofs.Common.{rules}
use Rattle.osn_written.proofs.RunFacts.{meant_double, meant_single}
use Rattle.osn_written.proofs.runs.touching_runs.Goals as goal

pub returns-then-year-clause-days : goal.returns-then-year-clause-days
returns-then-year-clause-days c = search (rules, meant_double)

pub returns-else-year-clause-days : goal.returns-else-year-clause-days
returns-else-year-clause-days c = search (rules, meant_single)
