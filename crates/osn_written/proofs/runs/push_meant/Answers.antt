use Rattle.std.proofs.Common.{◌≡◌, ◌≤◌, ◌+◌, ◌++◌, ◌∷◌, [], ◌∙◌, ap, arith, ℕ, Bool}
use Rattle.std.proofs.Common.{sym, Vec, Global}
use Rattle.osn_days.specs.declared.day.Day.{Day}
use Rattle.std.proofs.lemmas.Int.{ints}
use Rattle.osn_days.specs.Rules.{newest_rules}
use Rattle.osn_territory.specs.Dating.{dated_on}
use Rattle.osn_written.specs.Runs as spec
use Rattle.osn_written.proofs.RunFacts.{number_taken, number_left}
use Rattle.osn_written.proofs.runs.push_meant.Goals as goal
use Rattle.osn_written.proofs.runs.push_meant.Goals.{then-is_meant_double+in_ok-push}
use Rattle.osn_written.proofs.runs.push_meant.Goals.{else-is_meant_double}

pub loop-number-preserved : goal.loop-number-preserved
loop-number-preserved c =
    let first = c.args.run.first in
    let number = c.loop-number.number in
    let end : number + 1 ≤ c.args.run.last + 1 =
    omega (arith, c.loop-number-test.true, c.number-number-end.ensures.value) in
    let day : c.on_line-day.result ≡ number =
    omega (arith, ints, c.on_line-day.ensures, c.from.ensures) in
    let q : ℕ → Bool =
    λ d. spec.is_meant_double c.args.date (dated_on newest_rules c.args.territory.now d) in
    let test : q number ≡ c.is_meant_double.result =
    sym (c.is_meant_double.ensures
    ∙ ap (spec.is_meant_double c.args.date) (c.dated.ensures
    ∙ ap (dated_on newest_rules c.args.territory.now) day)) in (
      omega (arith, c.loop-number.invariant.0),
      omega (arith, end, c.loop-number.invariant.0),
      elim c.if-is_meant_double.branch [
        | then-is_meant_double+in_ok-push w ↦ number_taken q c.args.days.now.items
            c.loop-number.days.items c.if-is_meant_double.days.items first number
            c.loop-number.invariant.0 c.loop-number.invariant.2
            (test ∙ w.if-is_meant_double.true)
            (ap (λ (v : Vec Day Global). v.items) w.days-is ∙ w.in_ok-push.ensures.items
            ∙ ap (λ (d : ℕ). c.loop-number.days.items ++ d ∷ []) day)
        | else-is_meant_double w ↦ ap (λ (v : Vec Day Global). v.items) w.days-is
            ∙ number_left q c.args.days.now.items c.loop-number.days.items first number
            c.loop-number.invariant.0 c.loop-number.invariant.2
            (test ∙ w.if-is_meant_double.false)
      ],
    )
