use Rattle.std.proofs.Common.{◌≡◌, ap, sym, ◌∙◌, rules, of_z, to_z, w32, w64}
use Rattle.std.specs.Option.{option_to_list}
use Rattle.osn_days.specs.Rules.{newest_rules}
use Rattle.osn_days.specs.Chain.{days_with_date}
use Rattle.osn_territory.specs.LabelSearch.{date_in, year_in}
use Rattle.osn_territory.proofs.LabelFacts.{no_day_off_the_years, no_day_of_other_year}
use Rattle.osn_territory.proofs.LabelFacts.{days_of_year}
use Rattle.osn_territory.proofs.TableFacts.{none_counted}
use Rattle.osn_territory.proofs.candidate_table.day_of_label_year.Goals as goal

pub returns-in_err-day : goal.returns-in_err-day
returns-in_err-day c =
    ap option_to_list c.from_residual.ensures ∙ none_counted newest_rules c.args.regime c.args.label
    c.args.year c.args.candidate c.in_err-day.was c.requires

pub returns-in_err-date : goal.returns-in_err-date
returns-in_err-date c =
    ap option_to_list c.from_residual-in_err-date.ensures ∙ no_day_off_the_years c.args.regime
    c.args.label c.args.year _ (search rules) c.in_err-date.ensures.in_range.1

pub returns-then-year_of-label : goal.returns-then-year_of-label
returns-then-year_of-label c =
    let regime = c.args.regime in
    let counted : year_in newest_rules regime c.in_ok-date.date ≡ c.args.label.year =
    search rules in
    let same : to_z w64 (of_z w64 c.args.year) ≡ c.args.year = search rules in
    ap option_to_list (sym c.in_ok-day.was) ∙ c.requires
    ∙ ap (λ y. days_with_date newest_rules regime.calendar (date_in y c.args.label)) (sym same)
    ∙ days_of_year newest_rules regime c.args.label c.args.year _ same
    (ap (year_in newest_rules regime) (sym c.in_ok-date.ensures.value) ∙ counted)

pub returns-else-year_of-label : goal.returns-else-year_of-label
returns-else-year_of-label c =
    no_day_of_other_year newest_rules c.args.regime c.args.label c.args.year _ (search rules)
    (λ counted. c.if-year_of-label.false (ap (of_z w32) (c.year_of.ensures
    ∙ ap (year_in newest_rules c.args.regime) c.in_ok-date.ensures.value ∙ counted)))
