use Rattle.std.proofs.Common.{rules}
use Rattle.osn_days.specs.DateText.{date_text}
use Rattle.osn_days.proofs.DateDigits.{at_least_four, at_least_two}
use Rattle.osn_register_text.proofs.date_table.DateTextDisplay.fmt.Goals as goal

pub returns-clause-writes : goal.returns-clause-writes
unfolding date_text
returns-clause-writes c = search (rules, at_least_four, at_least_two)
