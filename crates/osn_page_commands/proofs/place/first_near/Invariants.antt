use Rattle.std.proofs.Common.{◌≡◌, drop, find}
use Rattle.osn_page_commands.specs.Place.{is_territory_near}
use Rattle.osn_page_commands.proofs.place.first_near.Given as goal

-- what is left decides
abbrev pub invariant-loop-territory : goal.invariant-loop-territory
invariant-loop-territory l =
    find (is_territory_near l.most l.word) l.territories
    ≡ find (is_territory_near l.most l.word) (drop l.territory-index l.territories)
