use Rattle.std.proofs.Common.{◌≡◌, ◌≤◌, ◌+◌, ◌-◌, ◌/◌, ◌<ℤ◌, ◌≤ℤ◌, ℤ, subst, arith, rules}
use Rattle.std.proofs.Common.{to_z, of_z, w64}
use Rattle.osn_days.specs.Rules.{newest_rules}
use Rattle.osn_territory.specs.RunKeys.{number_on}
use Rattle.osn_territory.proofs.RunKeyFacts.{below_until, reached_from}
use Rattle.osn_territory.proofs.runs.Key.first_from.Goals as goal

pub loop-low-init : goal.loop-low-init
loop-low-init c = record {
  first = omega arith;
  order = c.requires.line.1;
  end = omega arith;
  below = λ d from until. absurd (omega (arith, from, until));
  reached = λ d from until. absurd (omega (arith, from, until));
}

pub on_line-requires : goal.on_line-requires
on_line-requires c =
    let whole = c.loop-low.invariant in
    let more = c.loop-low-test.true in
    let middle : (1 ≤ c.loop-low.low + (c.loop-low.high - c.loop-low.low) / 2)
    × (c.loop-low.low + (c.loop-low.high - c.loop-low.low) / 2 ≤ 3652059) = (
      omega (arith, whole.first, c.requires.line.0),
      omega (arith, more, whole.end, c.requires.line.2),
    ) in
    search (rules, middle)

pub loop-low-preserved-then-number-bound : goal.loop-low-preserved-then-number-bound
loop-low-preserved-then-number-bound c =
    let whole = c.loop-low.invariant in
    let more = c.loop-low-test.true in
    let day : c.on_line.result ≡ c.loop-low.low + (c.loop-low.high - c.loop-low.low) / 2 =
    search rules in
    let bound : ℤ = to_z w64 (of_z w64 c.args.bound) in
    let here : number_on newest_rules c.args.self c.on_line.result <ℤ bound = search rules in
    record {
      first = omega (arith, whole.first);
      order = omega (arith, more);
      end = whole.end;
      below = λ d from until. below_until newest_rules c.args.self bound c.on_line.result d
          (omega (arith, from, c.requires.line.0)) (omega (arith, day, until)) here;
      reached = whole.reached;
    }

pub loop-low-preserved : goal.loop-low-preserved
loop-low-preserved c =
    let whole = c.loop-low.invariant in
    let more = c.loop-low-test.true in
    let day : c.on_line.result ≡ c.loop-low.low + (c.loop-low.high - c.loop-low.low) / 2 =
    search rules in
    let bound : ℤ = to_z w64 (of_z w64 c.args.bound) in
    let here : bound ≤ℤ number_on newest_rules c.args.self c.on_line.result = search rules in
    record {
      first = whole.first;
      order = omega arith;
      end = omega (arith, more, whole.end);
      below = whole.below;
      reached = λ d from until. reached_from newest_rules c.args.self bound c.on_line.result d
          (omega (arith, day, c.requires.line.0, whole.first))
          (omega (arith, day, from)) here;
    }

pub returns-clause-below : goal.returns-clause-below
returns-clause-below c d from until =
    let bound : to_z w64 (of_z w64 c.args.bound) ≡ c.args.bound = search rules in
    subst (λ (b : ℤ). number_on newest_rules c.args.self d <ℤ b) bound
    (c.loop-low.invariant.below d from until)

pub returns-clause-reached : goal.returns-clause-reached
returns-clause-reached c d from until =
    let bound : to_z w64 (of_z w64 c.args.bound) ≡ c.args.bound = search rules in
    subst (λ (b : ℤ). b ≤ℤ number_on newest_rules c.args.self d) bound
    (c.loop-low.invariant.reached d (omega (arith, from, c.loop-low-test.false)) until)
