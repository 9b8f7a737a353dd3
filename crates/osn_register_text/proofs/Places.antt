-- A place of a list that is walked from its first one on, and the territory that is listed there.
use Rattle.std.proofs.Common.{◌≡◌, ℕ, zero, suc, ◌+◌, List, [], ◌∷◌, drop, Option, Some, None}
use Rattle.std.proofs.Common.{option_map, refl, sym, ap, subst, ◌∙◌}
use Rattle.std.proofs.lemmas.List.{drop_more}
use Rattle.std.proofs.lemmas.Option.{slice_get_within, get_or_from_slice_get}
use Rattle.std.specs.List.{slice_get}
use Rattle.osn_territory.specs.Territory.{TerritoryModel}
use Rattle.osn_register.specs.NamedTerritories.{listing_of}
use Rattle.osn_register.specs.Plain.{EntryModel}
use Rattle.osn_register_text.proofs.Rows.{not_none, some_is}

module _ {X : Type 0} where
  pub left_from : (xs : List X) (i : ℕ) (x : X) → slice_get xs i ≡ Some x →
      drop i xs ≡ x ∷ drop (i + 1) xs
  left_from xs i x at = drop_more xs i x (slice_get_within xs i x at)
      ∙ ap (λ y. y ∷ drop (i + 1) xs) (get_or_from_slice_get xs i x x at)

  pub none_left : (xs : List X) (i : ℕ) → slice_get xs i ≡ None → drop i xs ≡ []
  none_left [] zero none = refl
  none_left [] (suc i) none = refl
  none_left (x ∷ xs) zero none = not_none none
  none_left (x ∷ xs) (suc i) none = none_left xs i none

-- the territory at a place has this code, this name and this model
pub record IsListed (o : Option EntryModel) (code name : List ℕ) (t : TerritoryModel) : Type 0
  where
    pub entry : EntryModel
    pub is : o ≡ Some entry
    pub code_is : entry.code ≡ code
    pub name_is : entry.name ≡ name
    pub territory_is : entry.territory ≡ t

abbrev Listing : Type 0
Listing = List ℕ × List ℕ × TerritoryModel

pub is_listed : (o : Option EntryModel) (code name : List ℕ) (t : TerritoryModel) →
    option_map listing_of o ≡ Some (code, name, t) → IsListed o code name t
is_listed None code name t listed = not_none (sym listed)
is_listed (Some l) code name t listed =
    let same : listing_of l ≡ (code, name, t) = some_is listed in
    record {
      entry = l;
      is = refl;
      code_is = ap (λ (x : Listing). x.0) same;
      name_is = ap (λ (x : Listing). x.1) same;
      territory_is = ap (λ (x : Listing). x.2) same;
    }

pub none_listed : (o : Option EntryModel) → option_map listing_of o ≡ None → o ≡ None
none_listed None none = refl
none_listed (Some l) none = not_none none

-- what holds of the code and the name holds of the territory's
pub of_entry : (P : List ℕ → List ℕ → Type 0) (l : EntryModel) (code name : List ℕ) →
    l.code ≡ code → l.name ≡ name → P code name → P l.code l.name
of_entry P l code name code_is name_is holds =
    subst (λ n. P l.code n) (sym name_is) (subst (λ c. P c name) (sym code_is) holds)
