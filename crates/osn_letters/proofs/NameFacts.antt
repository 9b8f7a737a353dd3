-- The only territory that is called by a text, as the map of a finder is made.
use Rattle.std.proofs.Common.{◌≡◌, ◌∙◌, ℕ, zero, suc, ◌+◌, ◌≤◌, List, [], ◌∷◌, drop, length, cond}
use Rattle.std.proofs.Common.{Bool, true, false, ◌||◌, Option, Some, None, option_map, filter}
use Rattle.std.proofs.Common.{◌≢◌, Result, Ok, Err, refl, sym, ap}
use Rattle.std.proofs.lemmas.List.{drop_more}
use Rattle.std.proofs.lemmas.Option.{slice_get_within, get_or_from_slice_get, slice_get_past}
use Rattle.std.specs.Borrow.{Bor}
use Rattle.std.specs.Cmp.Lexicographic.{bytes_decides}
use Rattle.std.specs.HashMap.{HashMap}
use Rattle.std.specs.List.{slice_get}
use Rattle.std.specs.Map.{lookup, update}
use Rattle.std.specs.Prelude.{unwrap_or}
use Rattle.std.specs.Result.{result_map_both}
use Rattle.std.specs.Str.{bytes_eq, str_eq_ignore_ascii_case, str_to_ascii_lowercase}
use Rattle.std.specs.String.{string_bytes}
use Rattle.std.specs.declared.string.String.{String}
use Rattle.osn_territory.specs.Territory.{TerritoryModel}
use Rattle.osn_letters.specs.declared.no_place.NoPlace.{NoPlace}
use Rattle.osn_letters.specs.declared.no_place.NoPlace.TheVariants.{Unknown, Ambiguous}
use Rattle.osn_letters.specs.FinderInside.{found_in}
use Rattle.osn_letters.specs.TerritoryNames.{is_called, only_called, only_of, with_territory}
use Rattle.osn_register.specs.NamedTerritories.{listing_of}
use Rattle.osn_register.specs.Plain.{EntryModel}

abbrev Found : Type 0
Found = Result TerritoryModel NoPlace

-- what is found once these territories were read too
abbrev pub with_rest : List ℕ → Found → List EntryModel → Found
with_rest text found [] = found
with_rest text found (l ∷ rest) =
    with_rest text (with_territory (is_called text l) found l.territory) rest

stays_ambiguous : (text : List ℕ) (ls : List EntryModel)
    → with_rest text (Err Ambiguous) ls ≡ Err Ambiguous
stays_ambiguous text [] = refl
stays_ambiguous text (l ∷ rest) =
    elim (is_called text l) as (λ b.
    with_rest text (with_territory b (Err Ambiguous) l.territory) rest ≡ Err Ambiguous) [
      | true ↦ stays_ambiguous text rest
      | false ↦ stays_ambiguous text rest
    ]

after_one : (text : List ℕ) (one : EntryModel) (ls : List EntryModel)
    → with_rest text (Ok one.territory) ls ≡ only_of (one ∷ filter (is_called text) ls)
after_one text one [] = refl
after_one text one (l ∷ rest) =
    elim (is_called text l) as (λ b.
    with_rest text (with_territory b (Ok one.territory) l.territory) rest
    ≡ only_of (one ∷ cond b (l ∷ filter (is_called text) rest) (filter (is_called text) rest))) [
      | true ↦ stays_ambiguous text rest
      | false ↦ after_one text one rest
    ]

-- all of them are read
pub only_of_all : (text : List ℕ) (ls : List EntryModel)
    → with_rest text (Err Unknown) ls ≡ only_called text ls
only_of_all text [] = refl
only_of_all text (l ∷ rest) =
    elim (is_called text l) as (λ b.
    with_rest text (with_territory b (Err Unknown) l.territory) rest
    ≡ only_of (cond b (l ∷ filter (is_called text) rest) (filter (is_called text) rest))) [
      | true ↦ after_one text l rest
      | false ↦ only_of_all text rest
    ]

-- ---- the map

abbrev Held : Type 0
Held = Result (Bor TerritoryModel) NoPlace

abbrev pub shown : Option Held → Found
shown o = result_map_both (λ t. t.now) (λ reason. reason) (unwrap_or o (Err Unknown))

pub none_called : {Y S : Type 0} (called : HashMap (String Y) Held S) (text : List ℕ)
    → called.entries ≡ [] → found_in called text ≡ Err Unknown
none_called called text empty =
    let key = str_to_ascii_lowercase text in
    ap (λ es. shown (lookup (λ k. bytes_eq key (string_bytes k)) es)) empty

-- a territory was added under its code or its name
pub called_added : (under : List ℕ → Option Held) (key name text : List ℕ) (found : Held)
    (t : TerritoryModel) → key ≡ str_to_ascii_lowercase name
    → result_map_both (λ t. t.now) (λ reason. reason) found
    ≡ with_territory true (shown (under key)) t
    → shown (update bytes_eq under key (Some found) (str_to_ascii_lowercase text))
    ≡ with_territory (str_eq_ignore_ascii_case name text)
    (shown (under (str_to_ascii_lowercase text))) t
called_added under key name text found t low is =
    ap (λ k. shown (update bytes_eq under k (Some found) (str_to_ascii_lowercase text))) low
    ∙ by (str_eq_ignore_ascii_case name text) refl
  where
    by : (b : Bool) → str_eq_ignore_ascii_case name text ≡ b
        → shown (cond b (Some found) (under (str_to_ascii_lowercase text)))
        ≡ with_territory b (shown (under (str_to_ascii_lowercase text))) t
    by true e = is ∙ ap (λ k. with_territory true (shown (under k)) t)
        (low ∙ (bytes_decides (str_to_ascii_lowercase name) (str_to_ascii_lowercase text)).0 e)
    by false e = refl

-- a territory was added under its code and under its name
pub added_both : (code name text : List ℕ) (old : Found) (t : TerritoryModel)
    → str_to_ascii_lowercase code ≢ str_to_ascii_lowercase name
    → with_territory (str_eq_ignore_ascii_case name text)
    (with_territory (str_eq_ignore_ascii_case code text) old t) t
    ≡ with_territory (str_eq_ignore_ascii_case code text
    || str_eq_ignore_ascii_case name text) old t
added_both code name text old t apart =
    by (str_eq_ignore_ascii_case code text) (str_eq_ignore_ascii_case name text) refl refl
  where
    by : (a b : Bool) → str_eq_ignore_ascii_case code text ≡ a
        → str_eq_ignore_ascii_case name text ≡ b
        → with_territory b (with_territory a old t) t ≡ with_territory (a || b) old t
    by true true one two =
        let low = str_to_ascii_lowercase in
        absurd (apart ((bytes_decides (low code) (low text)).0 one
        ∙ sym ((bytes_decides (low name) (low text)).0 two)))
    by true false one two = refl
    by false b one two = refl

-- ---- the walk over the territories

module _ {X : Type 0} where
  left_from : (xs : List X) (i : ℕ) (x : X) → slice_get xs i ≡ Some x →
      drop i xs ≡ x ∷ drop (i + 1) xs
  left_from xs i x at = drop_more xs i x (slice_get_within xs i x at)
      ∙ ap (λ y. y ∷ drop (i + 1) xs) (get_or_from_slice_get xs i x x at)

  none_left : (xs : List X) (i : ℕ) → slice_get xs i ≡ None → drop i xs ≡ []
  none_left [] zero none = refl
  none_left [] (suc i) none = refl
  none_left (x ∷ xs) zero none = absurd (cc none)
  none_left (x ∷ xs) (suc i) none = none_left xs i none

none_listed : (o : Option EntryModel) → option_map listing_of o ≡ None → o ≡ None
none_listed None none = refl
none_listed (Some l) none = absurd (cc none)

some_is : {X : Type 0} {x y : X} → Some x ≡ Some y → x ≡ y
some_is h = cc

abbrev Listing : Type 0
Listing = List ℕ × List ℕ × TerritoryModel

-- the territory at a place was read
pub territory_read : (all : List EntryModel) (place : ℕ) (code name : List ℕ) (t : TerritoryModel)
    (text : List ℕ) (old new : Found)
    → option_map listing_of (slice_get all place) ≡ Some (code, name, t)
    → new ≡ with_territory (str_eq_ignore_ascii_case code text
    || str_eq_ignore_ascii_case name text) old t
    → with_rest text old (drop place all) ≡ only_called text all
    → with_rest text new (drop (place + 1) all) ≡ only_called text all
territory_read all place code name t text old new listed is before =
    by (slice_get all place) refl listed
  where
    rest : List EntryModel
    rest = drop (place + 1) all

    by : (o : Option EntryModel) → slice_get all place ≡ o → option_map listing_of o
        ≡ Some (code, name, t) → with_rest text new rest ≡ only_called text all
    by None at listed = absurd (cc listed)
    by (Some l) at listed =
        let same : listing_of l ≡ (code, name, t) = some_is listed in
        let code_is : l.code ≡ code = ap (λ (x : Listing). x.0) same in
        let name_is : l.name ≡ name = ap (λ (x : Listing). x.1) same in
        let territory_is : l.territory ≡ t = ap (λ (x : Listing). x.2) same in
        ap (λ found. with_rest text found rest) (is
        ∙ ap (λ c. with_territory (str_eq_ignore_ascii_case c text
        || str_eq_ignore_ascii_case name text) old t) (sym code_is)
        ∙ ap (λ n. with_territory (str_eq_ignore_ascii_case l.code text
        || str_eq_ignore_ascii_case n text) old t) (sym name_is)
        ∙ ap (λ u. with_territory (is_called text l) old u) (sym territory_is))
        ∙ ap (λ ls. with_rest text old ls) (sym (left_from all place l at))
        ∙ before

-- all were read
pub all_read : (all : List EntryModel) (place : ℕ) (text : List ℕ) (found : Found)
    → drop place all ≡ [] → with_rest text found (drop place all) ≡ only_called text all
    → found ≡ only_called text all
all_read all place text found none before =
    ap (λ ls. with_rest text found ls) (sym none) ∙ before

pub past_last : (all : List EntryModel) (place : ℕ) → length all ≤ place → drop place all ≡ []
past_last all place past = none_left all place (slice_get_past all place past)

pub not_listed : (all : List EntryModel) (place : ℕ) →
    option_map listing_of (slice_get all place) ≡ None → drop place all ≡ []
not_listed all place none = none_left all place (none_listed (slice_get all place) none)
