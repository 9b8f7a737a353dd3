use Rattle.std.proofs.Common.{rules}
use Rattle.osn_days.specs.DateText as spec
use Rattle.osn_days.proofs.DateDigits.{at_least_four, at_least_two}
use Rattle.osn_days.proofs.date.date_text.Goals as goal

pub returns : goal.returns
unfolding spec.date_text
returns c = search (rules, at_least_four, at_least_two)
