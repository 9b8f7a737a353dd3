use Rattle.std.proofs.Common.{rules}
use Rattle.osn_lines.proofs.plain.Plain.new.Goals as goal

pub returns-clause-failed : goal.returns-clause-failed
returns-clause-failed g c = search rules
