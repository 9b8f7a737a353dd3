use Rattle.std.proofs.Common.{rules}
use Rattle.osn_written.proofs.RunFacts.{first_of}
use Rattle.osn_written.proofs.runs.join_runs.Goals as goal

pub returns-in-len1-up : goal.returns-in-len1-up
returns-in-len1-up c = search (rules, first_of)
