use Rattle.std.proofs.Common.{ap, ◌∙◌, rules}
use Rattle.std.specs.Option.{option_to_list}
use Rattle.osn_territory.proofs.TableFacts.{no_date_off_the_years}
use Rattle.osn_territory.proofs.candidate_table.dated_day.Goals as goal

pub returns-in_err-date-clause-value : goal.returns-in_err-date-clause-value
returns-in_err-date-clause-value c =
    ap option_to_list c.from_residual.ensures ∙ no_date_off_the_years c.args.calendar c.args.label
    c.args.year _ (search rules) c.in_err-date.ensures.in_range.1
