use Rattle.std.proofs.Common.{◌∙◌, ◌+◌, ap}
use Rattle.std.specs.List.{list_any}
use Rattle.std.proofs.lemmas.List.{take_rest}
use Rattle.osn_commands.specs.Journal.{is_journal_option}
use Rattle.osn_commands.proofs.JournalLemmas.{repeats}
use Rattle.osn_commands.proofs.journal.is_repeated.Goals as goal

pub returns : goal.returns
returns c =
    c.has_option.ensures
    ∙ ap (list_any (λ word. is_journal_option word.now))
    (take_rest c.args.words.now (c.args.at + 1))
    ∙ repeats c.args.words.now c.args.at
