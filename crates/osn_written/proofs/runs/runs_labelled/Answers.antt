use Rattle.std.proofs.Common.{rules}
use Rattle.osn_written.proofs.RunFacts.{labelled_day, labelled_month, have_days, labelled_year}
use Rattle.osn_written.proofs.runs.runs_labelled.Goals as goal

pub returns-in-Day-clause-days : goal.returns-in-Day-clause-days
returns-in-Day-clause-days c = search (rules, labelled_day)

pub returns-in-Month-clause-days : goal.returns-in-Month-clause-days
returns-in-Month-clause-days c = search (rules, labelled_month)

pub returns-in-Month-clause-have : goal.returns-in-Month-clause-have
returns-in-Month-clause-have c = search (rules, have_days)

pub returns-in-Year-clause-days : goal.returns-in-Year-clause-days
returns-in-Year-clause-days c = search (rules, labelled_year)

pub returns-in-Year-clause-have : goal.returns-in-Year-clause-have
returns-in-Year-clause-have c = search (rules, have_days)
