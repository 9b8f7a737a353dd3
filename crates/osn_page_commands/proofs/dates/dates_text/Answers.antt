use Rattle.std.proofs.Common.{◌∙◌, ap, sym}
use Rattle.osn_core.specs.Edition.{edition_model}
use Rattle.osn_register.specs.Plain.{code_refusal}
use Rattle.osn_page_commands.proofs.LineLemmas.{lines_refused, on_any}
use Rattle.osn_page_commands.proofs.dates.dates_text.Goals as goal

pub returns-clause-lawful : goal.returns-clause-lawful
returns-clause-lawful c =
    on_any c.texts_of.result
    (sym (ap (λ lands. code_refusal lands c.args.code.now) c.register.ensures)
    ∙ c.in_ok-territory.ensures.test)

pub returns-clause-refused : goal.returns-clause-refused
returns-clause-refused c =
    lines_refused c.texts_of.result
    (code_refusal (edition_model c.args.edition.now).territories c.args.code.now)
    (sym (ap (λ lands. code_refusal lands c.args.code.now) c.register.ensures)
    ∙ c.in_ok-territory.ensures.test)
    c.texts_of.ensures.refused
