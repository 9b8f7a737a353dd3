use Rattle.std.proofs.Common.{rules}
use Rattle.osn_days.specs.Rules.{newest_rules}
use Rattle.osn_territory.proofs.LabelFacts.{three_years_found}
use Rattle.osn_territory.proofs.candidate_table.CandidateTable.days.Goals as goal

pub returns : goal.returns
returns c =
    three_years_found newest_rules c.args.regime c.args.label _ _ _ _ _ _
    c.day_of_label_year.ensures c.day_of_label_year-2.ensures c.day_of_label_year-3.ensures
    (search rules) (search rules) (search rules)
