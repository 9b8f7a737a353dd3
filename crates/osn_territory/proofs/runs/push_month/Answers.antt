use Rattle.std.proofs.Common.{◌-◌, ◌++◌, sym, ap, ◌∙◌, rules}
use Rattle.std.proofs.Common.{append_assoc}
use Rattle.std.proofs.lemmas.Result.{on_ok_weaker}
use Rattle.std.specs.List.{range_with_len}
use Rattle.osn_days.specs.Rules.{newest_rules}
use Rattle.osn_territory.specs.Runs.{days_in}
use Rattle.osn_territory.specs.RunKeys.{january_year}
use Rattle.osn_territory.proofs.RunFacts.{lie_until}
use Rattle.osn_territory.proofs.RunKeyFacts.{month_runs, january_near}
use Rattle.osn_territory.proofs.runs.push_month.Goals as goal

pub push_run-requires-clause-runs : goal.push_run-requires-clause-runs
push_run-requires-clause-runs c =
    lie_until 0 c.args.days.0 c.days_with-one.result.0 c.args.runs.now.items c.requires.runs
    c.days_with-one.ensures.within.0

pub push_run-requires-2-clause-runs : goal.push_run-requires-2-clause-runs
push_run-requires-2-clause-runs c =
    lie_until 0 c.days_with-one.result.1 c.days_with-other.result.0 c.push_run.new.runs.items
    c.in_ok-push_run.ensures.runs c.days_with-other.ensures.within.0

pub returns-clause-days : goal.returns-clause-days
returns-clause-days c =
    let one = c.days_with-one.ensures in
    let other = c.days_with-other.ensures in
    let numbers = c.month_numbers-numbers.result in
    let parts = month_runs c.args.regime.calendar (january_year c.args.regime.style c.args.sought.0)
    numbers.0 numbers.1 c.args.sought.1 c.args.days.0
    c.days_with-one.result.0 c.days_with-one.result.1 c.days_with-other.result.0
    c.days_with-other.result.1 c.args.days.1 (search (rules, c.month_numbers-numbers.ensures.first))
    c.month_numbers-numbers.ensures.second
    c.month_numbers-numbers.ensures.byte
    one.within.0 one.within.1 other.within.0 other.within.1 other.within.2
    (λ d from until. january_near newest_rules c.args.regime _ d (c.requires.year d from until))
    (λ d from until. let here = one.before d from until in search (rules, here))
    (λ d from until. let here = one.same d from until in search (rules, here))
    (λ d from until. let here = one.after d from until in search (rules, here))
    (λ d from until. let here = other.before d from until in search (rules, here))
    (λ d from until. let here = other.same d from until in search (rules, here))
    (λ d from until. let here = other.after d from until in search (rules, here)) in
    on_ok_weaker c.push_run-2.result (λ pushed. pushed
    ∙ ap (λ l. l ++ range_with_len c.days_with-other.result.0
    (c.days_with-other.result.1 - c.days_with-other.result.0)) c.in_ok-push_run.ensures.days
    ∙ append_assoc (days_in c.args.runs.now.items) _ _
    ∙ ap (λ l. days_in c.args.runs.now.items ++ l) (sym parts)) c.push_run-2.ensures.days

pub returns-clause-runs : goal.returns-clause-runs
returns-clause-runs c =
    on_ok_weaker c.push_run-2.result (λ pushed. lie_until 0 c.days_with-other.result.1 c.args.days.1
    c.push_run-2.new.runs.items pushed c.days_with-other.ensures.within.2) c.push_run-2.ensures.runs
