use Rattle.std.proofs.Common.{rules}
use Rattle.osn_territory.proofs.SearchFacts.{all_without}
use Rattle.osn_territory.proofs.label_search.LabelSearch.new.Goals as goal

pub returns-else-periods-ge-PERIODS_FOR_A_TABLE-clause-known :
    goal.returns-else-periods-ge-PERIODS_FOR_A_TABLE-clause-known
returns-else-periods-ge-PERIODS_FOR_A_TABLE-clause-known c = all_without c.args.periods.now

pub returns-else-periods-ge-PERIODS_FOR_A_TABLE-clause-few :
    goal.returns-else-periods-ge-PERIODS_FOR_A_TABLE-clause-few
returns-else-periods-ge-PERIODS_FOR_A_TABLE-clause-few c = search rules
