use Rattle.std.proofs.Common.{Some, ap, sym, ◌∙◌, option_map, string_bytes}
use Rattle.osn_letters.specs.PlaceEntries.{code_of}
use Rattle.osn_letters.proofs.PlaceFacts.{code_of-map}
use Rattle.osn_letters.proofs.places.Places.code_of.Goals as goal

pub returns-in-Some : goal.returns-in-Some
returns-in-Some c =
    ap Some c.as_str.ensures.value
    ∙ ap (option_map string_bytes) c.in-Some.ensures.value
    ∙ sym (code_of-map string_bytes string_bytes c.args.place.now c.self.inside.codes.entries)
    ∙ ap (code_of c.args.place.now) c.self.view_is

pub returns-in-None : goal.returns-in-None
returns-in-None c =
    ap (option_map string_bytes) c.in-None.ensures.value
    ∙ sym (code_of-map string_bytes string_bytes c.args.place.now c.self.inside.codes.entries)
    ∙ ap (code_of c.args.place.now) c.self.view_is
