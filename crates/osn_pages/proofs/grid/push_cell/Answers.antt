use Rattle.std.proofs.Common.{rules}
use Rattle.osn_pages.specs.Grid as spec
use Rattle.osn_pages.proofs.GridFacts.{two_right}
use Rattle.osn_pages.proofs.grid.push_cell.Goals as goal

pub returns : goal.returns
unfolding spec.cell
returns c = search (rules, two_right)
