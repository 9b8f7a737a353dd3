use Rattle.std.proofs.Common.{rules, arith}
use Rattle.osn_days.specs.Line.{weekday}
use Rattle.osn_days.specs.Weekday.{weekday_numbered}
use Rattle.osn_pages.specs.Columns as spec
use Rattle.osn_pages.proofs.Text.{padded_left, day_right, length-weekday_name}
use Rattle.osn_pages.proofs.columns.push_day.Goals as goal

pub returns : goal.returns
unfolding spec.day_columns
returns c =
    let name = padded_left 13 c.args.name.now (omega arith) in
    let weekday_short = length-weekday_name (weekday_numbered (weekday c.args.day)) in
    let weekday_column = padded_left 9 c.name.result.now
    (rw (c.name.ensures, c.weekday.ensures) (omega (arith, weekday_short))) in
    search (rules, name, weekday_column, day_right)
