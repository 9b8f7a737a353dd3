use Rattle.std.proofs.Common.{rules}
use Rattle.osn_days.specs.Rules.{newest_rules}
use Rattle.osn_territory.proofs.LabelFacts.{three_years_found}
use Rattle.osn_territory.proofs.label_days.days_of_label.Goals as goal

pub returns-clause-value : goal.returns-clause-value
returns-clause-value c =
    three_years_found newest_rules c.args.regime c.args.label _ _ _ _ _ _
    c.day_in_year.ensures.value c.day_in_year-2.ensures.value c.day_in_year-3.ensures.value
    (search rules) (search rules) (search rules)
