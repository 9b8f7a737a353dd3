-- The territory of a code with its name, among the entries of a map.
use Rattle.std.proofs.Common.{◌≡◌, ℕ, List, [], ◌∷◌, map, cond, refl, true, false, Some}
use Rattle.std.proofs.Common.{option_map}
use Rattle.std.specs.Str.{bytes_eq}
use Rattle.std.specs.Map.{lookup}
use Rattle.osn_territory.specs.Territory.{TerritoryModel}
use Rattle.osn_register.specs.Sources.{SourcesModel}
use Rattle.osn_register.specs.Plain.{EntryModel, entry_of}
use Rattle.osn_register.specs.NamedTerritories.{named_of}
use Rattle.osn_register.specs.Inside.{entry_in}

module _ {K V : Type 0} (text : K → List ℕ) (name : V → List ℕ) (territory : V → TerritoryModel)
    (sources : V → SourcesModel)
  where
    abbrev both : V → List ℕ × TerritoryModel
    both v = (name v, territory v)

    pub named_of-map : (code : List ℕ) (es : List (K × V)) →
        named_of code (map (entry_in text name territory sources) es) ≡ option_map both
        (lookup (λ k. bytes_eq code (text k)) es)
    named_of-map code [] = refl
    named_of-map code (e ∷ es) =
        elim (bytes_eq code (text e.0)) as (λ b.
        option_map {U = List ℕ × TerritoryModel} (λ (l : EntryModel). (l.name, l.territory))
        (cond b (Some (entry_in text name territory sources e))
        (entry_of code (map (entry_in text name territory sources) es))) ≡ option_map both
        (cond b (Some e.1) (lookup (λ k. bytes_eq code (text k)) es))) [
          | true ↦ refl
          | false ↦ named_of-map code es
        ]
