use Rattle.std.proofs.Common.{◌≡◌, ◌≤◌, drop, length}
use Rattle.osn_grammar.specs.RomanYear.{roman_value}
use Rattle.osn_grammar.proofs.roman_year.roman_value.Given as goal

-- what was added is the value of what is left
abbrev pub invariant-loop-place : goal.invariant-loop-place
invariant-loop-place l =
    (l.place ≤ length l.word) × (l.value ≡ roman_value (drop l.place l.word))

abbrev pub decreases-loop-place : goal.decreases-loop-place
decreases-loop-place l = l.place
