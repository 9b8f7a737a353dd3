use Rattle.std.proofs.Common.{◌≡◌, drop}
use Rattle.osn_commands.specs.CommandWords.{first_plain_from}
use Rattle.osn_commands.specs.declared.command_words.Next.TheVariants as next
use Rattle.osn_commands.proofs.command_words.first_plain_from.Given as goal

-- the first one is among the words that are left
abbrev pub invariant-loop-word : goal.invariant-loop-word
invariant-loop-word g l =
    first_plain_from g.S.AsStr.text next.Any l.words
    ≡ first_plain_from g.S.AsStr.text l.next (drop l.word-index l.words)
