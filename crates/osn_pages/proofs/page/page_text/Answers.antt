use Rattle.osn_days.specs.Rules.{newest_rules}
use Rattle.osn_pages.proofs.PeriodFacts.{answers_periods}
use Rattle.osn_pages.proofs.page.page_text.Goals as goal

pub returns-clause-answered : goal.returns-clause-answered
returns-clause-answered c = answers_periods c.args.page newest_rules c.args.register.now.limits
    c.args.register.now.territories c.args.code.now c.limits-limits.ensures.well_formed.territories
    c.in_ok-name.ensures.test
