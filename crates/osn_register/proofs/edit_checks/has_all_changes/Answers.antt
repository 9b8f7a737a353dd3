use Rattle.std.proofs.Common.{ap, ◌∙◌, length, nat_lt}
use Rattle.osn_days.specs.Rules.{newest_rules}
use Rattle.osn_register.proofs.PeriodCount.{length-periods_from}
use Rattle.osn_register.proofs.edit_checks.has_all_changes.Goals as goal

pub returns : goal.returns
returns c = ap (nat_lt c.args.limits.changes) (ap length c.periods.ensures.value ∙
    length-periods_from newest_rules.high c.args.territory.now.starts)
