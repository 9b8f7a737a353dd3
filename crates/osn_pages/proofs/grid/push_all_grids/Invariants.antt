use Rattle.std.proofs.Common.{◌≡◌, ◌++◌, length, string_bytes}
use Rattle.std.specs.List.{flat_map}
use Rattle.osn_pages.specs.Grid as spec
use Rattle.osn_pages.proofs.grid.push_all_grids.Given as goal

-- the grids of the days that are left are still to come
abbrev pub invariant-loop-rest : goal.invariant-loop-rest
invariant-loop-rest l =
    string_bytes l.initial.out ++ flat_map spec.grid (spec.runs_of l.days)
    ≡ string_bytes l.out ++ flat_map spec.grid (spec.runs_of l.rest)

-- the days that are left
abbrev pub decreases-loop-rest : goal.decreases-loop-rest
decreases-loop-rest l = length l.rest
