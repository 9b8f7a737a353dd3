use Rattle.std.proofs.Common.{Some, true, ap, ◌∙◌}
use Rattle.std.proofs.lemmas.Map.Text.{hash_map_updates_text}
use Rattle.std.specs.HashMap.{get_by_text}
use Rattle.std.specs.Str.{str_to_ascii_lowercase}
use Rattle.std.specs.String.{string_bytes}
use Rattle.osn_letters.specs.FinderInside.{found_under}
use Rattle.osn_letters.specs.TerritoryNames.{with_territory}
use Rattle.osn_letters.proofs.NameFacts.{called_added, shown}
use Rattle.osn_letters.proofs.territory_finder.add_name.Goals as goal

pub returns : goal.returns
returns c = λ text.
    let key = string_bytes c.in_ok-key.key in
    ap shown
    (hash_map_updates_text key c.args.names.now c.insert.new.self
    (Some c.with_territory-found.result) c.in_ok-insert.ensures.updates
    (str_to_ascii_lowercase text))
    ∙ called_added (get_by_text c.args.names.now) key c.args.name.now text
    c.with_territory-found.result c.args.territory.now c.in_ok-key.ensures.ok
    (c.with_territory-found.ensures
    ∙ ap (λ found. with_territory true found c.args.territory.now) (c.found_under.ensures
    ∙ ap (λ k. found_under c.args.names.now k) c.deref.ensures))
