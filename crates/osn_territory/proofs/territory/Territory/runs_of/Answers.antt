use Rattle.osn_days.specs.Rules.{newest_rules}
use Rattle.osn_territory.proofs.CoverFacts.{within_at}
use Rattle.osn_territory.proofs.RunFacts.{all_sought, are_runs}
use Rattle.osn_territory.proofs.territory.Territory.runs_of.Goals as goal

pub push_period-requires-clause-line : goal.push_period-requires-clause-line
push_period-requires-clause-line c =
    within_at c.periods-period-items.result.now c.loop-period.period-index 1 newest_rules.high
    c.period-item.result c.periods-period-items.ensures.whole c.loop-period-test.true
    c.period-item.is

pub returns-clause-days : goal.returns-clause-days
returns-clause-days c =
    all_sought newest_rules c.args.sought c.args.self.now c.loop-period.runs.items
    c.periods-period-items.result.now c.loop-period.period-index
    c.periods-period-items.ensures.value c.periods-period-items.ensures.whole
    c.loop-period-test.false c.loop-period.invariant.days

pub returns-clause-runs : goal.returns-clause-runs
returns-clause-runs c =
    let left = c.loop-period.invariant.runs in
    are_runs left.0 c.loop-period.runs.items left.2
