use Rattle.std.proofs.Common.{◌≡◌, ◌++◌, ◌-◌, [], drop, length, string_bytes}
use Rattle.osn_grammar.specs.Scan.{tokens_after}
use Rattle.osn_grammar.proofs.scan.tokens_of.Given as goal

-- the parts so far and those of what is left are all of them
abbrev pub invariant-loop-place : goal.invariant-loop-place
invariant-loop-place l =
    l.tokens.items ++ tokens_after (string_bytes l.word) (drop l.place l.characters)
    ≡ tokens_after [] l.characters

abbrev pub decreases-loop-place : goal.decreases-loop-place
decreases-loop-place l = length l.initial.characters - l.place
