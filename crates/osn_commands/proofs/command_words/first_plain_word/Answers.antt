use Rattle.std.proofs.Common.{◌∙◌}
use Rattle.osn_commands.proofs.TypedLemmas.{same_first}
use Rattle.osn_commands.proofs.command_words.first_plain_word.Goals as goal

pub returns : goal.returns
returns g c = c.first_plain_after.ensures ∙ same_first g.S.AsStr.text c.args.words.now
