use Rattle.std.proofs.Common.{rules}
use Rattle.osn_register.proofs.numbers.year_in_range.Goals as goal

pub returns : goal.returns
returns c = search rules
