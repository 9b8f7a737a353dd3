use Rattle.std.proofs.Common.{◌≡◌, ap, ◌∙◌, arith, rules, to_z, of_z, w32}
use Rattle.std.proofs.lemmas.Int.{ints}
use Rattle.osn_days.specs.Rules.{newest_rules}
use Rattle.osn_territory.specs.declared.dating.DatedDay.{DatedDay}
use Rattle.osn_territory.specs.Dual.{date_text}
use Rattle.osn_territory.specs.LabelOrder.{label_date}
use Rattle.osn_territory.proofs.DatedFacts.{text_of_date}
use Rattle.osn_territory.proofs.OrderOfLabels.{date_of_label}
use Rattle.osn_territory.proofs.dating.dated_day.Goals as goal

pub returns-clause-text : goal.returns-clause-text
returns-clause-text c =
    let found = c.date_and_year-year in
    let date = found.result.0 in
    let year = found.result.1 in
    let kept : to_z w32 (of_z w32 year) ≡ year = search rules in
    let counted : to_z w32 (of_z w32 date.year) ≡ date.year = search rules in
    text_of_date c.args.day _ _ year date kept counted found.ensures.year_range.0
    (omega (arith, ints, found.ensures.date_range.0))
    ∙ ap (λ y. date_text y date) found.ensures.year
    ∙ ap (date_text _) found.ensures.date

pub returns-clause-value : goal.returns-clause-value
returns-clause-value c = search rules

pub returns-clause-ordered : goal.returns-clause-ordered
returns-clause-ordered c fixed =
    let regime = c.args.regime in
    let day = c.args.day in
    ap (λ (x : DatedDay). label_date newest_rules regime x.label) (returns-clause-value c)
    ∙ date_of_label newest_rules regime day fixed
