use Rattle.std.proofs.Common.{rules}
use Rattle.osn_computus.proofs.figures.gregorian_epact.Goals as goal

pub returns-else-number-eq25 : goal.returns-else-number-eq25
returns-else-number-eq25 c = search rules
