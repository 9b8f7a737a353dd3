use Rattle.std.proofs.Common.{◌≡◌, [], ◌∷◌, ◌++◌, None, ap, ◌∙◌, string_bytes}
use Rattle.std.specs.String.{string_eq}
use Rattle.indexmap.specs.IndexMap.{get}
use Rattle.indexmap.proofs.CallerLemmas.{insert_entry-new}
use Rattle.osn_letters.specs.PlaceEntries.{code_of, entry_in}
use Rattle.osn_letters.proofs.PlaceFacts.{code_of-none, entries_with}
use Rattle.osn_letters.proofs.places.Places.insert.Goals as goal

pub returns : goal.returns
returns c =
    let es = c.self.inside.codes.entries in
    let none : get string_eq c.self.inside.codes c.args.place ≡ None =
    code_of-none string_bytes string_bytes (string_bytes c.args.place) es
    (ap (code_of (string_bytes c.args.place)) c.self.view_is ∙ c.requires) in
    entries_with string_bytes string_bytes es c.insert.new.self.entries c.args.place c.args.code
    (c.in_ok-insert.ensures.entries
    ∙ insert_entry-new string_eq c.self.inside.codes c.args.place c.args.code none)
    ∙ ap (λ l. l ++ entry_in string_bytes string_bytes (c.args.place, c.args.code) ∷ [])
    c.self.view_is
