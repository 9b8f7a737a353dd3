use Rattle.osn_days.specs.Rules.{newest_rules}
use Rattle.osn_territory.proofs.PeriodFacts.{periods_kept}
use Rattle.osn_territory.proofs.territory.Territory.periods.Goals as goal

pub returns-clause-value : goal.returns-clause-value
returns-clause-value c =
    periods_kept c.self.inside.exceptions.entries newest_rules c.args.self.now c.as_slice.result.now
    c.self.inside.periods.items c.as_slice.ensures.value c.self.view_is c.self.invariant
