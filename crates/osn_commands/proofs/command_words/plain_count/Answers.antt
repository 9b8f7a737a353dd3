use Rattle.std.proofs.Common.{◌∙◌}
use Rattle.osn_commands.proofs.TypedLemmas.{same_count}
use Rattle.osn_commands.proofs.command_words.plain_count.Goals as goal

pub returns : goal.returns
returns g c = c.plain_after.ensures ∙ same_count g.S.AsStr.text c.args.words.now
