use Rattle.std.proofs.Common.{◌≡◌, ◌≤◌, take, drop, length}
use Rattle.osn_grammar.specs.Extent.{range_after}
use Rattle.osn_grammar.proofs.extent.range_in.Given as goal

-- what was read is the range of what is left
abbrev pub invariant-loop-place : goal.invariant-loop-place
invariant-loop-place l =
    (l.place ≤ length l.tokens)
    × (l.read ≡ range_after l.order l.joining (take l.place l.tokens) (drop l.place l.tokens))

abbrev pub decreases-loop-place : goal.decreases-loop-place
decreases-loop-place l = l.place
