use Rattle.std.proofs.Common.{◌∙◌}
use Rattle.osn_commands.proofs.JournalLemmas as lemmas
use Rattle.osn_commands.proofs.journal.option_at.Goals as goal

pub returns : goal.returns
returns g c =
    c.place_of_option.ensures ∙ lemmas.place_of_option g.S.AsStr.text c.args.words.now
