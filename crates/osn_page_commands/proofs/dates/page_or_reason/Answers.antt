use Rattle.osn_core.specs.Edition.{edition_model}
use Rattle.osn_register.specs.Plain.{code_refusal}
use Rattle.osn_page_commands.proofs.LineLemmas.{line_refused}
use Rattle.osn_page_commands.proofs.dates.page_or_reason.Goals as goal

pub returns-in-Ok-clause-refused : goal.returns-in-Ok-clause-refused
returns-in-Ok-clause-refused c =
    line_refused c.entry_text.result
    (code_refusal (edition_model c.args.edition.now).territories c.args.code.now)
    c.entry_text.ensures.refused
