use Rattle.std.proofs.Common.{◌≤◌, ◌+◌, ◌++◌, List, length, subst, sym, ap, arith}
use Rattle.osn_days.specs.Rules.{newest_rules}
use Rattle.osn_territory.specs.declared.period.Period.{Period}
use Rattle.osn_territory.specs.Territory.{CoversLine}
use Rattle.std.specs.List.{flat_map}
use Rattle.osn_territory.specs.LabelSearch.{days_read, most_tested, AreKnown}
use Rattle.osn_territory.proofs.CoverFacts.{within_at, no_more_than_days}
use Rattle.osn_territory.proofs.PeriodFacts.{periods_kept}
use Rattle.osn_territory.proofs.ReadingFacts.{reading_is}
use Rattle.osn_territory.proofs.SearchFacts.{tested_more, tested_until, known_at}
use Rattle.osn_territory.proofs.territory.Territory.read_by.Goals as goal

pub read_period-requires-clause-line : goal.read_period-requires-clause-line
read_period-requires-clause-line c =
    let items = c.deref-period-items.result.now in
    let covers = subst (CoversLine newest_rules) (sym c.deref-period-items.ensures.value)
    c.self.invariant in
    within_at items c.loop-period.period-index 1 newest_rules.high c.period-item.result covers
    c.loop-period-test.true c.period-item.is

pub loop-period-init : goal.loop-period-init
loop-period-init c =
    let kept = periods_kept c.self.inside.exceptions.entries newest_rules c.args.self.now
    c.deref-period-items.result.now c.self.inside.periods.items
    c.deref-period-items.ensures.value c.self.view_is c.self.invariant in
    let s = c.args.search.now in
    let all = flat_map (days_read newest_rules s.label) c.deref-period-items.result.now in (
      ap (λ days. days ++ all) c.new-days.ensures.items,
      subst (λ (ps : List Period). s.tested ≤ most_tested s.table (length ps) 0) (sym kept)
          c.requires.tested,
    )

pub read_period-requires-clause-known : goal.read_period-requires-clause-known
read_period-requires-clause-known c =
    let kept = periods_kept c.self.inside.exceptions.entries newest_rules c.args.self.now
    c.deref-period-items.result.now c.self.inside.periods.items
    c.deref-period-items.ensures.value c.self.view_is c.self.invariant in
    let items = c.deref-period-items.result.now in
    let table = c.args.search.now.table in
    let known = subst (AreKnown table) (sym kept) c.requires.search.1 in
    known_at table items c.loop-period.period-index c.period-item.result c.period-item.result known
    c.loop-period-test.true (sym c.period-item.is)

pub overflow_add-tested : goal.overflow_add-tested
overflow_add-tested c =
    let items = c.deref-period-items.result.now in
    let covers = subst (CoversLine newest_rules) (sym c.deref-period-items.ensures.value)
    c.self.invariant in
    let few = no_more_than_days items 1 newest_rules.high covers in
    let i = c.loop-period.period-index in
    let table = c.args.search.now.table in
    let more = tested_more table (length items) c.in_ok-tested.field-0 i c.loop-period.tested
    c.loop-period.invariant.1 c.in_ok-tested.ensures.tested in
    let until = tested_until table (length items) (i + 1) (omega
    (arith, c.loop-period-test.true)) in
    omega (arith, few, more, until)

pub returns-clause-value : goal.returns-clause-value
returns-clause-value c =
    reading_is c.self.inside.exceptions.entries newest_rules c.args.self.now c.args.search.now.label
    c.loop-period.days.items c.deref-period-items.result.now c.self.inside.periods.items
    c.loop-period.period-index c.deref-period-items.ensures.value c.self.view_is
    c.self.invariant c.loop-period-test.false c.loop-period.invariant.0

pub returns-clause-tested : goal.returns-clause-tested
returns-clause-tested c =
    let kept = periods_kept c.self.inside.exceptions.entries newest_rules c.args.self.now
    c.deref-period-items.result.now c.self.inside.periods.items
    c.deref-period-items.ensures.value c.self.view_is c.self.invariant in
    let table = c.args.search.now.table in
    let items = c.deref-period-items.result.now in
    let until = tested_until table (length items) c.loop-period.period-index
    c.loop-period.auto.period-index-end in
    let all = ap (λ (ps : List Period). length ps) kept in
    omega (arith, c.loop-period.invariant.1, until, all)
