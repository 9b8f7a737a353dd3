use Rattle.std.proofs.Common.{rules}
use Rattle.osn_pages.specs.Almanac as spec
use Rattle.osn_pages.proofs.figures.push_cycles.Goals as goal

pub returns : goal.returns
unfolding spec.cycles_line
returns c = rw (← c.golden_number-golden.ensures.value, ← c.indiction.ensures) (search rules)
