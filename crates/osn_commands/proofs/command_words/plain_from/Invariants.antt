use Rattle.std.proofs.Common.{◌≡◌, ◌≤◌, ◌+◌, drop}
use Rattle.osn_commands.specs.CommandWords.{plain_from}
use Rattle.osn_commands.specs.declared.command_words.Next.TheVariants as next
use Rattle.osn_commands.proofs.command_words.plain_from.Given as goal

-- those so far and those of the words that are left are all of them
abbrev pub invariant-loop-word : goal.invariant-loop-word
invariant-loop-word g l =
    (l.count ≤ l.word-index)
    × (plain_from g.S.AsStr.text next.Any l.words
    ≡ l.count + plain_from g.S.AsStr.text l.next (drop l.word-index l.words))
