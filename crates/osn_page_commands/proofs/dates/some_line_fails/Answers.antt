use Rattle.osn_register.specs.Plain.{code_refusal}
use Rattle.osn_page_commands.proofs.LineLemmas.{lines_refused}
use Rattle.osn_page_commands.proofs.dates.some_line_fails.Goals as goal

pub returns-clause-refused : goal.returns-clause-refused
returns-clause-refused c =
    lines_refused c.one_fails.result
    (code_refusal c.args.register.now.territories c.args.code.now)
    c.in_ok-territory.ensures.test c.one_fails.ensures.refused
