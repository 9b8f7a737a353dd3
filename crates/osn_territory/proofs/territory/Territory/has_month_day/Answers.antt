use Rattle.std.proofs.Common.{◌∙◌}
use Rattle.osn_days.specs.Rules.{newest_rules}
use Rattle.osn_territory.specs.MonthDay.{has_month_day}
use Rattle.osn_territory.proofs.MonthDayFacts.{some_in_territory}
use Rattle.osn_territory.proofs.territory.Territory.has_month_day.Goals as goal

pub returns : goal.returns
returns c =
    c.some_has_month_day.ensures
    ∙ some_in_territory (λ r. has_month_day newest_rules r.calendar c.args.month c.args.day)
    c.self.inside.exceptions.entries c.deref.result.now c.self.inside.periods.items c.args.self.now
    c.deref.ensures.value c.self.view_is
