use Rattle.std.proofs.Common.{◌≡◌, ◌≤◌, take, drop, length}
use Rattle.osn_grammar.specs.PartRanges.{parts_after}
use Rattle.osn_grammar.proofs.part_ranges.part_range.Given as goal

-- what was found is the range of what is left
abbrev pub invariant-loop-place : goal.invariant-loop-place
invariant-loop-place l =
    (l.place ≤ length l.tokens)
    × (l.found ≡ parts_after (take l.place l.tokens) (drop l.place l.tokens))

abbrev pub decreases-loop-place : goal.decreases-loop-place
decreases-loop-place l = l.place
