use Rattle.std.proofs.Common.{◌≡◌, map, take}
use Rattle.osn_commands.proofs.journal.texts_of.Given as goal

-- the texts so far are those of the words so far
abbrev pub invariant-loop-word : goal.invariant-loop-word
invariant-loop-word g l =
    map (λ text. text.now) l.texts.items ≡ map g.S.AsStr.text (take l.word-index l.words)
