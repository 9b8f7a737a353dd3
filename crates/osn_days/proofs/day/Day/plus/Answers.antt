use Rattle.std.proofs.Common.{rules}
use Rattle.osn_days.proofs.day.Day.plus.Goals as goal

pub returns-clause-on_line : goal.returns-clause-on_line
returns-clause-on_line c = search rules

pub returns-clause-value : goal.returns-clause-value
returns-clause-value c = search rules
