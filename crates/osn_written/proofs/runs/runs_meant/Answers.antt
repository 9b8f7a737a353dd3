use Rattle.std.proofs.Common.{rules}
use Rattle.osn_written.proofs.RunFacts.{days_of_runs, meant_apart}
use Rattle.osn_written.proofs.runs.runs_meant.Goals as goal

pub returns-clause-days : goal.returns-clause-days
returns-clause-days c = search (rules, days_of_runs)

pub returns-clause-apart : goal.returns-clause-apart
returns-clause-apart c = search (rules, meant_apart)
