-- What the map of a finder has for a code or a name.
use Rattle.std.specs.Prelude.{ℕ, List, unwrap_or, Result, Err}
use Rattle.std.specs.Borrow.{Bor}
use Rattle.std.specs.HashMap.{HashMap, get_by_text}
use Rattle.std.specs.Result.{result_map_both}
use Rattle.std.specs.Str.{str_to_ascii_lowercase}
use Rattle.std.specs.declared.string.String.{String}
use Rattle.osn_territory.specs.Territory.{TerritoryModel}
use Rattle.osn_letters.specs.declared.no_place.NoPlace.{NoPlace}
use Rattle.osn_letters.specs.declared.no_place.NoPlace.TheVariants.{Unknown}

module _ {Y S : Type 0} where
  -- the territory that a map has under a key, or why it has none
  abbrev pub found_under : HashMap (String Y) (Result (Bor TerritoryModel) NoPlace) S → List ℕ
      → Result TerritoryModel NoPlace
  found_under called key =
      result_map_both (λ t. t.now) (λ reason. reason)
      (unwrap_or (get_by_text called key) (Err Unknown))

  -- the territory that a map has for a text in capital or small letters
  abbrev pub found_in : HashMap (String Y) (Result (Bor TerritoryModel) NoPlace) S → List ℕ
      → Result TerritoryModel NoPlace
  found_in called text = found_under called (str_to_ascii_lowercase text)
