use Rattle.std.proofs.Common.{◌≡◌, ◌<◌, length, refl, ap, subst}
use Rattle.osn_days.specs.Rules.{newest_rules}
use Rattle.osn_territory.specs.declared.period.Period.{Period}
use Rattle.osn_territory.proofs.CoverFacts.{covers_set, read_at}
use Rattle.osn_territory.proofs.ChangeFacts.{altered-at}
use Rattle.osn_territory.proofs.period_list.alter.Goals as goal

abbrev altered : goal.After-periods-1 → Period
altered c = record c.index_mut-period.result.now { regime = c.args.regime }

within : (c : goal.After-periods-1) →
    c.place_of_start-place.result < length c.args.periods.now.items
within c =
    subst (λ l. c.place_of_start-place.result < length l) c.deref.ensures.value
    c.place_of_start-place.ensures.within

on : (c : goal.After-periods-1) → c.index_mut-period.result.now.first ≡ c.args.day
on c =
    read_at (λ q. q.first ≡ c.args.day) c.deref.result.now c.args.periods.now.items
    c.place_of_start-place.result c.index_mut-period.result.now c.deref.ensures.value
    c.index_mut-period.ensures.value c.place_of_start-place.ensures.starts

pub returns-clause-covers : goal.returns-clause-covers
returns-clause-covers c =
    covers_set c.args.periods.now.items c.place_of_start-place.result 1 newest_rules.high
    c.index_mut-period.result.now (altered c) (within c) c.index_mut-period.ensures.value refl
    refl c.requires.covers

pub returns-clause-starts : goal.returns-clause-starts
returns-clause-starts c =
    altered-at c.args.periods.now.items c.place_of_start-place.result 1 newest_rules.high c.args.day
    c.index_mut-period.result.now (within c) c.index_mut-period.ensures.value c.requires.covers
    (altered c) c.args.regime (on c) (ap (λ d. (d, c.args.regime)) (on c))
