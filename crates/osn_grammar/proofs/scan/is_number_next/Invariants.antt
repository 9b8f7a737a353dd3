use Rattle.std.proofs.Common.{◌≡◌, ◌-◌, drop, length}
use Rattle.osn_grammar.specs.Scan.{is_number_next}
use Rattle.osn_grammar.proofs.scan.is_number_next.Given as goal

-- what is left decides
abbrev pub invariant-loop-place : goal.invariant-loop-place
invariant-loop-place l = is_number_next l.rest ≡ is_number_next (drop l.place l.rest)

abbrev pub decreases-loop-place : goal.decreases-loop-place
decreases-loop-place l = length l.rest - l.place
