use Rattle.std.proofs.Common.{ap, ◌∙◌}
use Rattle.std.proofs.lemmas.Result.{IfOk-weaker}
use Rattle.osn_days.specs.Rules.{newest_rules}
use Rattle.osn_core.specs.Edition.{edition_model}
use Rattle.osn_register_text.specs.WrittenText.{register_text}
use Rattle.osn_commands.proofs.text.print_territories.Goals as goal

pub returns-in-None : goal.returns-in-None
returns-in-None g c =
    let edition = edition_model c.args.edition.now in
    rw c.in-None.is (c.print.ensures (register_text newest_rules edition.number edition.territories)
    (IfOk-weaker c.write_text.result _ _
    (λ text is. is
    ∙ ap (λ n. register_text newest_rules n c.register-register.result.now.territories)
    c.number-number.ensures
    ∙ ap (register_text newest_rules edition.number) c.register-register.ensures)
    c.write_text.ensures.text))
