use Rattle.osn_letters.proofs.PlaceFaultFacts.{sound_after}
use Rattle.osn_letters.proofs.place_reader.read_places.Goals as goal

pub returns-clause-source : goal.returns-clause-source
returns-clause-source g c =
    sound_after c.places_in.result _ _ _ c.in_ok-text.ensures.sound c.places_in.ensures.unread
