use Rattle.std.proofs.Common.{◌≤◌, length, sym, subst}
use Rattle.osn_days.specs.Rules.{newest_rules}
use Rattle.osn_territory.proofs.TwoDaysFacts.{two_days_of_label}
use Rattle.osn_territory.proofs.label.day_of_label.Goals as goal

pub pair-requires : goal.pair-requires
pair-requires c =
    subst (λ days. length days ≤ 2) (sym c.days_of_label.ensures.value)
    (two_days_of_label newest_rules c.args.regime c.args.label)

pub returns-clause-no_third : goal.returns-clause-no_third
returns-clause-no_third c = two_days_of_label newest_rules c.args.regime c.args.label
