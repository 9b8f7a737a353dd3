use Rattle.std.proofs.Common.{◌≡◌, ◌++◌, ◌-◌, drop, length}
use Rattle.osn_grammar.specs.DashedYears.{with_slashes, slashed_after}
use Rattle.osn_grammar.proofs.dashed_years.with_slashes.Given as goal

-- the parts so far and those of what is left are all of them
abbrev pub invariant-loop-place : goal.invariant-loop-place
invariant-loop-place l =
    l.slashed.items ++ slashed_after l.earlier l.before (drop l.place l.tokens)
    ≡ with_slashes l.tokens

abbrev pub decreases-loop-place : goal.decreases-loop-place
decreases-loop-place l = length l.tokens - l.place
