use Rattle.std.proofs.Common.{◌≡◌, filter, take}
use Rattle.osn_page_commands.specs.Place.{is_similar}
use Rattle.osn_page_commands.proofs.place.similar_territories.Given as goal

-- those found so far
abbrev pub invariant-loop-territory : goal.invariant-loop-territory
invariant-loop-territory l =
    l.similar.items ≡ filter (is_similar l.word) (take l.territory-index l.territories)
