use Rattle.std.proofs.Common.{◌∙◌}
use Rattle.osn_commands.specs.Help.{is_json}
use Rattle.osn_commands.proofs.TypedLemmas.{any_of_map}
use Rattle.osn_commands.proofs.help.has_json.Goals as goal

pub returns : goal.returns
returns g c = c.some_json.ensures ∙ any_of_map g.S.AsStr.text is_json c.args.words.now
