use Rattle.std.proofs.Common.{rules}
use Rattle.osn_computus.proofs.TableFacts.{julian_row}
use Rattle.osn_computus.proofs.figures.golden_number.Goals as goal

pub returns-clause-moon : goal.returns-clause-moon
returns-clause-moon c = rw (c.number.ensures.value, (julian_row c.args.year).0) (search rules)
