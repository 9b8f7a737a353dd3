use Rattle.std.proofs.Common.{◌≡◌, ◌<◌, ◌≤◌, length, get_or, subst}
use Rattle.osn_days.specs.Rules.{newest_rules}
use Rattle.osn_territory.specs.Territory.{IsWithinBinaryDigits, periods_of}
use Rattle.osn_territory.proofs.PeriodFacts.{periods_kept}
use Rattle.osn_territory.proofs.territory.Territory.period_at.Goals as goal

same_periods : (c : goal.After-find_period) → c.deref.result.now
    ≡ periods_of newest_rules c.args.self.now
same_periods c =
    periods_kept c.self.inside.exceptions.entries newest_rules c.args.self.now c.deref.result.now
    c.self.inside.periods.items c.deref.ensures.value c.self.view_is c.self.invariant

pub returns-clause-within : goal.returns-clause-within
returns-clause-within c = subst (λ ps. c.find_period.result.0 < length ps) (same_periods c)
    c.find_period.ensures.within

pub returns-clause-holds : goal.returns-clause-holds
returns-clause-holds c p =
    subst (λ ps. ((get_or ps c.find_period.result.0 p).first ≤ c.args.day)
    × (c.args.day ≤ (get_or ps c.find_period.result.0 p).last)) (same_periods c)
    (c.find_period.ensures.holds p)

pub returns-clause-tested : goal.returns-clause-tested
returns-clause-tested c = subst (λ ps. IsWithinBinaryDigits c.find_period.result.1 (length ps))
    (same_periods c) c.find_period.ensures.tested
