use Rattle.osn_core.specs.Edition.{edition_model}
use Rattle.osn_register.specs.Plain.{code_refusal}
use Rattle.osn_page_commands.proofs.LineLemmas.{line_refused}
use Rattle.osn_page_commands.proofs.dates.page_of_read.Goals as goal

pub returns-in-Ok-Set-clause-refused : goal.returns-in-Ok-Set-clause-refused
returns-in-Ok-Set-clause-refused c =
    line_refused c.set_text.result
    (code_refusal (edition_model c.args.edition.now).territories c.args.code.now)
    c.set_text.ensures.refused
