use Rattle.std.proofs.Common.{◌≡◌, ◌+◌, ◌-◌, ◌/◌, ◌<◌, ◌≤◌, length, get_or, suc, subst, arith}
use Rattle.std.proofs.lemmas.List.{get_or_default}
use Rattle.osn_days.specs.Rules.{newest_rules}
use Rattle.osn_territory.proofs.CoverFacts.{no_more_than_days, not_after, halved, one_more_test}
use Rattle.osn_territory.proofs.period_list.find_period.Goals as goal

pub overflow_add-tested : goal.overflow_add-tested
overflow_add-tested c =
    let few = no_more_than_days c.args.periods.now 1 newest_rules.high c.requires in
    omega (arith, few, c.loop-high.invariant.4, c.loop-high-test.true)

pub loop-high-preserved-then-number : goal.loop-high-preserved-then-number
loop-high-preserved-then-number c =
    let ps = c.args.periods.now in
    let low = c.loop-high.low in
    let high = c.loop-high.high in
    let middle = low + (high - low) / 2 in
    let more = c.loop-high-test.true in
    let holds = c.loop-high.invariant in (
      omega (arith, more),
      holds.1,
      (λ p. subst (λ q. q.first ≤ c.number-number.result)
          (get_or_default ps middle c.index-periods-middle.result p (omega (arith, more, holds.1)))
          (omega (arith, c.if-number.true, c.number.ensures.value))),
      holds.3,
      omega (arith, more, holds.4),
      halved c.loop-high.tested (high - low - 1) (high - middle - 1) (length ps) holds.5
          (omega (arith, more)),
      one_more_test c.loop-high.tested (high - low - 1) (length ps) holds.5 (omega (arith, more)),
    )

pub loop-high-preserved : goal.loop-high-preserved
loop-high-preserved c =
    let ps = c.args.periods.now in
    let low = c.loop-high.low in
    let high = c.loop-high.high in
    let middle = low + (high - low) / 2 in
    let more = c.loop-high-test.true in
    let holds = c.loop-high.invariant in (
      omega (arith, more),
      omega (arith, more, holds.1),
      holds.2,
      (λ p within. subst (λ q. c.number-number.result < q.first)
          (get_or_default ps middle c.index-periods-middle.result p within)
          (omega (arith, c.if-number.false, c.number.ensures.value))),
      omega (arith, more, holds.4),
      halved c.loop-high.tested (high - low - 1) (middle - low - 1) (length ps) holds.5
          (omega (arith, more)),
      one_more_test c.loop-high.tested (high - low - 1) (length ps) holds.5 (omega (arith, more)),
    )

pub returns-clause-holds : goal.returns-clause-holds
returns-clause-holds c p =
    let ps = c.args.periods.now in
    let holds = c.loop-high.invariant in
    let day = c.number-number.ensures.value in
    let next : c.loop-high.high ≡ suc c.loop-high.low =
    omega (arith, holds.0, c.loop-high-test.false) in
    let first = holds.2 p in (
      omega (arith, first, day),
      not_after ps c.loop-high.low 1 newest_rules.high c.args.day c.requires
          (omega (arith, holds.0, holds.1)) (omega (arith, c.number-number.ensures.on_line.1, day))
          (λ q within. let past = subst (λ n. c.number-number.result < (get_or ps n q).first) next
          (holds.3 q (omega (arith, within, next))) in omega (arith, past, day))
          p,
    )
