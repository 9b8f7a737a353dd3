use Rattle.std.proofs.Common.{◌∙◌}
use Rattle.osn_commands.specs.CommandWords.{is_help}
use Rattle.osn_commands.proofs.TypedLemmas.{any_of_map}
use Rattle.osn_commands.proofs.command_words.asks_help.Goals as goal

pub returns : goal.returns
returns g c = c.some_help.ensures ∙ any_of_map g.S.AsStr.text is_help c.args.words.now
