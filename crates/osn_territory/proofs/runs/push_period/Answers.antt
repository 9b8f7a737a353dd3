use Rattle.std.proofs.Common.{◌++◌, sym, ap, ◌∙◌, ◌≡◌, ◌+◌, arith, rules}
use Rattle.std.proofs.lemmas.Result.{on_ok_weaker}
use Rattle.osn_days.specs.Rules.{newest_rules}
use Rattle.osn_territory.specs.Runs.{days_in}
use Rattle.osn_territory.proofs.RunFacts.{lie_until}
use Rattle.osn_territory.proofs.RunKeyFacts.{year_part}
use Rattle.osn_territory.proofs.runs.push_period.Goals as goal

pub push_in_year-requires-clause-runs : goal.push_in_year-requires-clause-runs
push_in_year-requires-clause-runs c =
    lie_until 0 c.args.period.now.first c.days_with-days.result.0 c.args.runs.now.items
    c.requires.runs
    (omega (arith, c.number.ensures.value, c.days_with-days.ensures.within.0))

pub returns-clause-days : goal.returns-clause-days
returns-clause-days c =
    let q = c.args.period.now in
    let found = c.days_with-days.ensures in
    let begin : c.number.result ≡ q.first = c.number.ensures.value in
    let end : c.number-end.result ≡ q.last = c.number-end.ensures.value in
    let part = year_part newest_rules c.args.sought q c.days_with-days.result.0
    c.days_with-days.result.1
    (omega (arith, begin, found.within.0)) found.within.1 (omega (arith, end, found.within.2))
    (λ d low high. let here = found.before d (omega (arith, begin, low)) high in
    search (rules, here))
    (λ d low high. let here = found.same d low high in search (rules, here))
    (λ d low high. let here = found.after d low (omega (arith, end, high)) in
    search (rules, here)) in
    on_ok_weaker c.push_in_year.result (λ pushed. pushed
    ∙ ap (λ l. days_in c.args.runs.now.items ++ l) (sym part)) c.push_in_year.ensures.days

pub returns-clause-runs : goal.returns-clause-runs
returns-clause-runs c =
    on_ok_weaker c.push_in_year.result (λ pushed. lie_until 0 c.days_with-days.result.1
    (c.args.period.now.last + 1) c.push_in_year.new.runs.items pushed
    (omega (arith, c.number-end.ensures.value, c.days_with-days.ensures.within.2)))
    c.push_in_year.ensures.runs
