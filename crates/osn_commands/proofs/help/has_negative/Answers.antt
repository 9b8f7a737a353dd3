use Rattle.std.proofs.Common.{◌∙◌}
use Rattle.osn_commands.specs.Help.{is_negative}
use Rattle.osn_commands.proofs.TypedLemmas.{any_of_map}
use Rattle.osn_commands.proofs.help.has_negative.Goals as goal

pub returns : goal.returns
returns g c = c.some_negative.ensures ∙ any_of_map g.S.AsStr.text is_negative c.args.words.now
