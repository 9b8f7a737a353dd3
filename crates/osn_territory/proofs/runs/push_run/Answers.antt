use Rattle.std.proofs.Common.{◌+◌, ◌≡◌, subst, sym, arith}
use Rattle.std.proofs.lemmas.Int.{ints}
use Rattle.osn_territory.specs.RunKeys.{LieBetween}
use Rattle.osn_territory.proofs.RunFacts.{lie_more}
use Rattle.osn_territory.proofs.runs.push_run.Goals as goal

pub returns-in_ok-push-clause-runs : goal.returns-in_ok-push-clause-runs
returns-in_ok-push-clause-runs c =
    let more = c.if-first-end.true in
    let first : c.on_line.result ≡ c.args.first = omega (arith, ints, c.on_line.ensures) in
    let last : c.on_line-then-first-end.result + 1 ≡ c.args.end =
    omega (arith, ints, more, c.on_line-then-first-end.ensures) in
    subst (LieBetween 0 c.args.end) (sym c.in_ok-push.ensures.items)
    (lie_more 0 c.args.first c.args.end c.args.runs.now.items _ c.requires.runs
    (omega (arith, first)) (omega (arith, more, first, last)) (omega (arith, last)))
