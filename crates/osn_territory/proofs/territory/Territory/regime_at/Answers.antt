use Rattle.std.proofs.Common.{ap, sym, ◌∙◌}
use Rattle.osn_days.specs.Rules.{newest_rules}
use Rattle.osn_territory.proofs.RegimeFacts.{regime_found}
use Rattle.osn_territory.proofs.territory.Territory.regime_at.Goals as goal

pub returns : goal.returns
returns c =
    let t = c.args.self.now in
    let i = c.period_at-place.result.0 in
    let p = c.index-periods-place.result in
    ap (λ q. q.regime) (sym c.index-periods-place.is)
    ∙ regime_found newest_rules t c.periods.result.now i p c.args.day c.periods.ensures.value
    c.periods.ensures.whole c.period_at-place.ensures.within c.period_at-place.ensures.holds
    c.index-periods-place.is
