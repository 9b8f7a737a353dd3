use Rattle.std.proofs.Common.{rules}
use Rattle.osn_written.proofs.RunFacts.{days_of_singles, singles_have_days}
use Rattle.osn_written.proofs.runs.double_runs.Goals as goal

pub returns-clause-days : goal.returns-clause-days
returns-clause-days c = search (rules, days_of_singles)

pub returns-clause-have : goal.returns-clause-have
returns-clause-have c = search (rules, singles_have_days)
