use Rattle.osn_register.specs.Plain.{code_refusal}
use Rattle.osn_page_commands.proofs.LineLemmas.{line_refused}
use Rattle.osn_page_commands.proofs.dates.line_fails.Goals as goal

pub returns-clause-refused : goal.returns-clause-refused
returns-clause-refused c =
    line_refused c.read_fails.result
    (code_refusal c.args.register.now.territories c.args.code.now)
    c.read_fails.ensures.refused
