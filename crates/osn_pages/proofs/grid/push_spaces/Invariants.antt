use Rattle.std.proofs.Common.{◌≡◌, ◌++◌, replicate, string_bytes}
use Rattle.osn_pages.proofs.grid.push_spaces.Given as goal

-- the spaces so far
abbrev pub invariant-loop-place : goal.invariant-loop-place
invariant-loop-place l =
    string_bytes l.out ≡ string_bytes l.initial.out ++ replicate l._place 32
