use Rattle.osn_days.specs.Rules.{newest_rules}
use Rattle.osn_territory.proofs.RegimeFacts.{regime_found}
use Rattle.osn_territory.specs.Territory.{periods_of}
use Rattle.osn_register.proofs.CoverFacts.{period_on-place}
use Rattle.osn_register.proofs.territory_answer.period_on.Goals as goal

pub returns-clause-value : goal.returns-clause-value
returns-clause-value c = period_on-place (periods_of newest_rules c.args.territory.now)
    c.periods.result.now c.period_at-place.result.0 1 newest_rules.high c.args.day
    c.index-periods-place.result c.periods.ensures.value c.periods.ensures.whole
    c.period_at-place.ensures.within c.period_at-place.ensures.holds c.index-periods-place.is

pub returns-clause-regime : goal.returns-clause-regime
returns-clause-regime c = regime_found newest_rules c.args.territory.now c.periods.result.now
    c.period_at-place.result.0 c.index-periods-place.result c.args.day c.periods.ensures.value
    c.periods.ensures.whole c.period_at-place.ensures.within c.period_at-place.ensures.holds
    c.index-periods-place.is
