-- The sources that edits give one after another are found where they were given.
use Rattle.std.proofs.Common.{◌≡◌, ℕ, Bool, true, false, not, cond, ◌==◌, List, [], ◌∷◌}
use Rattle.std.proofs.Common.{filter, find, Option, Some, None, option_map, is_some, refl, sym}
use Rattle.std.proofs.Common.{ap, ◌∙◌}
use Rattle.std.proofs.Common.{inl, inr, arith, eq-eqb}
use Rattle.std.proofs.lemmas.Bool.{cases_Bool, false≢true}
use Rattle.std.proofs.lemmas.Bool.Decides.{nat_tests}
use Rattle.std.proofs.lemmas.List.Folds.{find-append}
use Rattle.std.specs.List.{list_any}
use Rattle.std.specs.Map.{lookup}
use Rattle.std.specs.Option.{option_or}
use Rattle.osn_territory.specs.Territory.{TerritoryModel}
use Rattle.osn_register.specs.Answer.{period_source, easter_source}
use Rattle.osn_register.specs.Plain.{EntryModel}
use Rattle.osn_register.specs.SameEntry.{IsSameEntry, AreSameEntry}
use Rattle.osn_register.specs.Sources.{SourcesModel, IsGiven, AreSources, source_of, with_source}
use Rattle.osn_register.specs.Sources.{without_source}

-- ---- found after a filter

find_kept : {X : Type 0} (p q : X → Bool) → ((x : X) → p x ≡ true → q x ≡ true) → (xs : List X)
    → find p (filter q xs) ≡ find p xs
find_kept p q keeps [] = refl
find_kept p q keeps (x ∷ xs) =
    elim (cases_Bool (q x)) [
      | inl kept ↦ rw kept (ap (cond (p x) (Some x)) (find_kept p q keeps xs))
      | inr dropped ↦
          elim (cases_Bool (p x)) [
            | inl found ↦ absurd (false≢true (sym dropped ∙ keeps x found))
            | inr other ↦ rw (dropped, other) (find_kept p q keeps xs)
          ]
    ]

find_dropped : {X : Type 0} (p q : X → Bool) → ((x : X) → q x ≡ true → p x ≡ false)
    → (xs : List X) → find p (filter q xs) ≡ None
find_dropped p q drops [] = refl
find_dropped p q drops (x ∷ xs) =
    elim (cases_Bool (q x)) [
      | inl kept ↦ rw (kept, drops x kept) (find_dropped p q drops xs)
      | inr dropped ↦ rw dropped (find_dropped p q drops xs)
    ]

-- a source that is found may be given
pub source_is : (n : ℕ) (ss : List (ℕ × List ℕ)) → AreSources ss → IsGiven (source_of n ss)
source_is n [] given = tt
source_is n (s ∷ ss) given =
    elim (s.0 == n) as (λ b. IsGiven (option_map (λ (x : ℕ × List ℕ). x.1)
    (cond b (Some s) (find (λ (x : ℕ × List ℕ). x.0 == n) ss)))) [
      | true ↦ given.0
      | false ↦ source_is n ss given.1
    ]

-- ---- one more

not_that : (n m : ℕ) → not (n == m) ≡ true → (n == m) ≡ false
not_that n m other = grind (arith, nat_tests)

still_other : (k n m : ℕ) → (m == n) ≡ false → (k == n) ≡ true → not (k == m) ≡ true
still_other k n m apart same = grind (arith, nat_tests)

none_left : (m : ℕ) (ss : List (ℕ × List ℕ))
    → find (λ (s : ℕ × List ℕ). s.0 == m) (without_source m ss) ≡ None
none_left m ss = find_dropped (λ s. s.0 == m) (λ s. not (s.0 == m)) (λ s. not_that s.0 m) ss

-- the source that was given to a number
pub with_same : (m : ℕ) (o : Option (List ℕ)) (ss : List (ℕ × List ℕ))
    → source_of m (with_source m o ss) ≡ o
with_same m None ss = ap (option_map (λ (s : ℕ × List ℕ). s.1)) (none_left m ss)
with_same m (Some text) ss =
    ap (option_map (λ (s : ℕ × List ℕ). s.1))
    (find-append (λ s. s.0 == m) (without_source m ss) ((m, text) ∷ [])
    ∙ ap (λ o. option_or o (find (λ s. s.0 == m) ((m, text) ∷ []))) (none_left m ss)
    ∙ ap (λ b. cond b (Some (m, text)) None) (eq-eqb m m refl))

or_none : {X : Type 0} (o : Option X) → option_or o None ≡ o
or_none None = refl
or_none (Some x) = refl

-- another number keeps its own
pub with_other : (n m : ℕ) (o : Option (List ℕ)) (ss : List (ℕ × List ℕ)) → (m == n) ≡ false
    → source_of n (with_source m o ss) ≡ source_of n ss
with_other n m None ss apart =
    ap (option_map (λ (s : ℕ × List ℕ). s.1))
    (find_kept (λ s. s.0 == n) (λ s. not (s.0 == m)) (λ s. still_other s.0 n m apart) ss)
with_other n m (Some text) ss apart =
    let kept = find_kept (λ (s : ℕ × List ℕ). s.0 == n) (λ s. not (s.0 == m))
    (λ s. still_other s.0 n m apart) ss in
    ap (option_map (λ (s : ℕ × List ℕ). s.1))
    (find-append (λ s. s.0 == n) (without_source m ss) ((m, text) ∷ [])
    ∙ ap (λ b. option_or (find (λ (s : ℕ × List ℕ). s.0 == n) (without_source m ss))
    (cond b (Some (m, text)) None)) apart
    ∙ or_none (find (λ s. s.0 == n) (without_source m ss)) ∙ kept)

-- ---- all of them

-- the sources with that of each of these numbers, in turn
abbrev pub all_cited : {A : Type 0} → (ℕ → Option (List ℕ)) → List (ℕ × A) → List (ℕ × List ℕ)
    → List (ℕ × List ℕ)
all_cited source [] ss = ss
all_cited source (x ∷ xs) ss = all_cited source xs (with_source x.0 (source x.0) ss)

module _ {A : Type 0} (source : ℕ → Option (List ℕ)) (n : ℕ) where
  -- once it is given, it stays
  stays : (xs : List (ℕ × A)) (ss : List (ℕ × List ℕ)) → source_of n ss ≡ source n
      → source_of n (all_cited source xs ss) ≡ source n
  stays [] ss given = given
  stays (x ∷ xs) ss given =
      elim (cases_Bool (x.0 == n)) [
        | inl same ↦
            let is : x.0 ≡ n = grind (arith, nat_tests) in
            stays xs (with_source x.0 (source x.0) ss)
            (rw is (with_same n (source n) ss))
        | inr other ↦
            stays xs (with_source x.0 (source x.0) ss)
            (with_other n x.0 (source x.0) ss other ∙ given)
      ]

  pub given_among : (xs : List (ℕ × A)) (ss : List (ℕ × List ℕ))
      → list_any (λ x. x.0 == n) xs ≡ true → source_of n (all_cited source xs ss) ≡ source n
  given_among [] ss among = absurd (false≢true among)
  given_among (x ∷ xs) ss among =
      elim (cases_Bool (x.0 == n)) [
        | inl same ↦
            let is : x.0 ≡ n = grind (arith, nat_tests) in
            stays xs (with_source x.0 (source x.0) ss)
            (rw is (with_same n (source n) ss))
        | inr other ↦
            given_among xs (with_source x.0 (source x.0) ss) (rw other at among)
      ]

-- ---- a territory

-- the sources that the edits of a territory give
abbrev pub made_sources : Option SourcesModel → TerritoryModel → SourcesModel
made_sources cited t = record {
  periods = all_cited (period_source cited) t.starts [];
  easters = all_cited (easter_source cited) t.exceptions [];
}

-- the territory as its edits make it
abbrev pub remade : EntryModel → EntryModel
remade l = record l { sources = made_sources (Some l.sources) l.territory }

listed_among : (y : ℕ) (es : List (ℕ × ℕ)) → is_some (lookup (λ year. y == year) es) ≡ true
    → list_any (λ e. e.0 == y) es ≡ true
listed_among y [] there = there
listed_among y (e ∷ es) there =
    elim (cases_Bool (y == e.0)) [
      | inl same ↦
          let turned : (e.0 == y) ≡ true = grind (arith, nat_tests) in
          rw turned refl
      | inr other ↦
          let turned : (e.0 == y) ≡ false = grind (arith, nat_tests) in
          rw turned (listed_among y es (rw other at there))
    ]

pub remade_is_same : (l : EntryModel) → IsSameEntry (remade l) l
remade_is_same l = record {
  name = refl;
  territory = refl;
  periods = λ day there. given_among (period_source (Some l.sources)) day l.territory.starts []
      there;
  easters = λ year there. given_among (easter_source (Some l.sources)) year
      l.territory.exceptions [] (listed_among year l.territory.exceptions there);
}

pub remade_are_same : (o : Option EntryModel) → AreSameEntry (option_map remade o) o
remade_are_same None = tt
remade_are_same (Some l) = remade_is_same l
