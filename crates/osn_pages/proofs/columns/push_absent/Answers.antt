use Rattle.std.proofs.Common.{rules, arith}
use Rattle.osn_pages.specs.Columns as spec
use Rattle.osn_pages.proofs.Text.{padded_left}
use Rattle.osn_pages.proofs.columns.push_absent.Goals as goal

pub returns : goal.returns
unfolding spec.absent_line
returns c =
    let name = padded_left 13 c.args.name.now (omega arith) in
    search (rules, name)
