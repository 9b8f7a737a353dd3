use Rattle.std.proofs.Common.{◌∙◌}
use Rattle.osn_territory.proofs.MonthDayFacts.{found_in_1712}
use Rattle.osn_territory.proofs.month_day.has_month_day.Goals as goal

pub returns : goal.returns
returns c =
    c.is_some.ensures
    ∙ found_in_1712 c.args.calendar c.args.month c.args.day c.day_of.result c.day_of.ensures
