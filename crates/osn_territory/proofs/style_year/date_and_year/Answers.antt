use Rattle.std.proofs.Common.{◌≤◌, sym, ap, ◌∙◌, arith, rules}
use Rattle.osn_days.specs.Rules.{newest_rules}
use Rattle.osn_territory.specs.LabelSearch.{year_in}
use Rattle.osn_territory.specs.LabelOrder.{is_dated_before_easter}
use Rattle.osn_territory.proofs.LabelFacts.{year_of_day, style_year_range}
use Rattle.osn_territory.proofs.style_year.date_and_year.Goals as goal

pub returns-clause-year : goal.returns-clause-year
returns-clause-year c =
    let r = c.args.regime in
    let number = c.number-number.ensures in
    let low : 1 ≤ c.args.day = omega (arith, number.value, number.on_line.0) in
    let by_day = year_of_day newest_rules r c.args.day low in
    let by_date = ap (year_in newest_rules r) c.date_of-date.ensures.value in
    let same = c.year_of.ensures ∙ by_date ∙ sym by_day in
    search (rules, same)

pub returns-clause-year_range : goal.returns-clause-year_range
returns-clause-year_range c =
    let r = c.args.regime in
    let date = c.date_of-date.result in
    let year = c.date_of-date.ensures.year in
    let range = style_year_range r.style date (is_dated_before_easter newest_rules r.calendar date)
    newest_rules.last_year year.0 year.1 in
    search (rules, range)
