use Rattle.std.proofs.Common.{◌≡◌, ◌++◌, take, string_bytes}
use Rattle.std.specs.List.{flat_map}
use Rattle.osn_pages.specs.Grid as spec
use Rattle.osn_pages.proofs.grid.push_next_cells.Given as goal

-- the cells so far
abbrev pub invariant-loop-dated : goal.invariant-loop-dated
invariant-loop-dated l =
    string_bytes l.out ≡ string_bytes l.initial.out
    ++ flat_map spec.next_cell (take l.dated-index l.days)
