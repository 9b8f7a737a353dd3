use Rattle.std.proofs.Common.{◌≡◌, ◌≤◌, ◌+◌, ◌-◌, ◌++◌, ◌∙◌, ap, arith, map}
use Rattle.std.proofs.lemmas.Int.{ints}
use Rattle.std.specs.List.{range_with_len}
use Rattle.osn_days.specs.Rules.{newest_rules}
use Rattle.osn_territory.specs.Dating.{dated_on}
use Rattle.osn_pages.proofs.MonthFacts.{one_day}
use Rattle.osn_pages.proofs.month.push_run.Goals as goal

pub loop-number-preserved : goal.loop-number-preserved
loop-number-preserved c =
    let first = c.args.run.first in
    let number = c.loop-number.number in
    let end : number + 1 ≤ c.args.run.last + 1 =
    omega (arith, c.loop-number-test.true, c.number-number-end.ensures.value) in
    let day : c.on_line.result ≡ number =
    omega (arith, ints, c.on_line.ensures, c.from.ensures) in (
      omega (arith, c.loop-number.invariant.0),
      omega (arith, end, c.loop-number.invariant.0),
      one_day (dated_on newest_rules c.args.territory.now) c.args.days.now.items
          c.loop-number.days.items c.push.new.self.items c.dated.result first number
          c.loop-number.invariant.0 c.loop-number.invariant.2 c.in_ok-push.ensures.items
          (c.dated.ensures ∙ ap (dated_on newest_rules c.args.territory.now) day),
    )

pub returns : goal.returns
returns c =
    let first = c.args.run.first in
    let count : c.loop-number.number - first ≡ c.args.run.last + 1 - first = omega (
      arith,
      c.loop-number-test.false,
      c.number-number-end.ensures.value,
      c.loop-number.invariant.0,
      c.loop-number.invariant.1,
    ) in
    c.loop-number.invariant.2
    ∙ ap (λ n. c.args.days.now.items ++ map (dated_on newest_rules c.args.territory.now)
    (range_with_len first n)) count
