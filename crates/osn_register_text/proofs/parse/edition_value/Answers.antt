use Rattle.toml.proofs.Views.{table_get}
use Rattle.osn_register_text.specs.Text.{edition_key}
use Rattle.osn_register_text.proofs.parse.edition_value.Goals as goal

pub returns : goal.returns
returns c =
    table_get c.get.result edition_key c.args.table.now.entries c.get.ensures.value
