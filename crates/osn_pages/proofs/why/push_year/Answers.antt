use Rattle.std.proofs.Common.{string_bytes, rules, ◌++◌, ◌∙◌, ap}
use Rattle.std.proofs.lemmas.Result.{on_ok_weaker}
use Rattle.osn_days.specs.Rules.{newest_rules}
use Rattle.osn_pages.proofs.YearFacts.{year_of_runs}
use Rattle.osn_pages.proofs.why.push_year.Goals as goal

pub returns : goal.returns
returns c =
    let line = year_of_runs newest_rules c.args.territory.now c.args.year c.args.runs.now
    c.index-runs-0.result c.index-runs-runs.result c.requires (search rules) c.index-runs-0.is
    c.index-runs-runs.is in
    on_ok_weaker c.push_year_ends.result
    (λ e. e ∙ ap (λ s. string_bytes c.args.out.now ++ s) (search (rules, line)))
    c.push_year_ends.ensures
