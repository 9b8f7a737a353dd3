use Rattle.std.proofs.Common.{◌++◌, sym, ap, ◌∙◌}
use Rattle.std.proofs.lemmas.Result.{on_ok_weaker}
use Rattle.osn_territory.specs.Runs.{days_in}
use Rattle.osn_territory.proofs.RunKeyFacts.{all_months}
use Rattle.osn_territory.proofs.runs.push_in_year.Goals as goal

pub returns-in-None-clause-days : goal.returns-in-None-clause-days
returns-in-None-clause-days c =
    let days = c.args.days in
    on_ok_weaker c.push_run.result (λ pushed. pushed ∙ ap (λ l. days_in c.args.runs.now.items ++ l)
    (sym (all_months c.args.sought.month c.args.regime.calendar days.0 _ c.in-None.is)))
    c.push_run.ensures.days
