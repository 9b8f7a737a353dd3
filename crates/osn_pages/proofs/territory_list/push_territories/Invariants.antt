use Rattle.std.proofs.Common.{◌≡◌, ◌++◌, take, string_bytes}
use Rattle.std.specs.List.{flat_map}
use Rattle.osn_pages.specs.Territory as spec
use Rattle.osn_pages.proofs.territory_list.push_territories.Given as goal

-- the lines so far
abbrev pub invariant-loop-territory : goal.invariant-loop-territory
invariant-loop-territory l =
    string_bytes l.out ≡ string_bytes l.initial.out
    ++ flat_map spec.list_line (take l.territory-index l.territories)
