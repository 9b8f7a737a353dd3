use Rattle.std.proofs.Common.{◌≡◌, ℤ, Vec, Global, Some, to_z, of_z, w32, ap, ◌∙◌, rules}
use Rattle.std.proofs.lemmas.Result.{IfOk-weaker}
use Rattle.osn_days.specs.Rules.{newest_rules}
use Rattle.osn_territory.specs.declared.runs.Run.{Run}
use Rattle.osn_territory.specs.Runs.{days_in, days_of_month}
use Rattle.osn_territory.specs.RunKeys.{days_sought}
use Rattle.osn_territory.proofs.RunFacts.{sought_month}
use Rattle.osn_territory.proofs.territory.Territory.days_of_month.Goals as goal

pub returns-clause-days : goal.returns-clause-days
returns-clause-days c =
    let t = c.args.self.now in
    let read : ℤ = to_z w32 (of_z w32 c.args.year) in
    let year : read ≡ c.args.year = search rules in
    let same = sought_month newest_rules t read c.args.month
    ∙ ap (λ (y : ℤ). days_of_month newest_rules t y c.args.month) year in
    IfOk-weaker c.runs_of.result (λ (runs : Vec Run Global).
    days_in runs.items
    ≡ days_sought newest_rules t (record { year = read; month = Some c.args.month }))
    (λ (runs : Vec Run Global).
    days_in runs.items ≡ days_of_month newest_rules t c.args.year c.args.month)
    (λ runs found. found ∙ same) c.runs_of.ensures.days
