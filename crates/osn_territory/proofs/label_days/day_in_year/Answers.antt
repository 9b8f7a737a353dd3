use Rattle.std.proofs.Common.{◌≡◌, ap, sym, ◌∙◌, rules, of_z, w32}
use Rattle.std.specs.Option.{option_to_list}
use Rattle.osn_days.specs.Rules.{newest_rules}
use Rattle.osn_days.specs.Chain.{days_with_date}
use Rattle.osn_territory.specs.LabelSearch.{year_in}
use Rattle.osn_territory.proofs.LabelFacts.{no_day_off_the_years, no_day_of_other_year}
use Rattle.osn_territory.proofs.LabelFacts.{days_of_year}
use Rattle.osn_territory.proofs.label_days.day_in_year.Goals as goal

pub returns-in_err-date-clause-value : goal.returns-in_err-date-clause-value
returns-in_err-date-clause-value c =
    ap option_to_list c.from_residual.ensures ∙ no_day_off_the_years c.args.regime c.args.label
    c.args.year _ (search rules) c.in_err-date.ensures.in_range.1

pub returns-then-year_of-label-clause-value : goal.returns-then-year_of-label-clause-value
returns-then-year_of-label-clause-value c =
    no_day_of_other_year newest_rules c.args.regime c.args.label c.args.year _ (search rules)
    (λ counted. c.if-year_of-label.true (ap (of_z w32) (c.year_of.ensures
    ∙ ap (year_in newest_rules c.args.regime) c.in_ok-date.ensures.value ∙ counted)))

pub returns-clause-value : goal.returns-clause-value
returns-clause-value c =
    let regime = c.args.regime in
    let date = c.in_ok-date.ensures.value in
    let counted : year_in newest_rules regime c.in_ok-date.date ≡ c.args.label.year =
    search rules in
    c.day_of.ensures
    ∙ ap (days_with_date newest_rules regime.calendar) date
    ∙ days_of_year newest_rules regime c.args.label c.args.year _ (search rules)
    (ap (year_in newest_rules regime) (sym date) ∙ counted)
