-- Where readers are, after one was put elsewhere.
use Rattle.std.proofs.Common.{◌≡◌, ℕ, zero, suc, ◌-◌, ◌<◌, ◌==◌, ◌⊎◌, inl, inr, true, false}
use Rattle.std.proofs.Common.{if◌then◌else◌, List, [], ◌∷◌, length, slice_get, slice_set}
use Rattle.std.proofs.Common.{Option, Some, None, Result, Ok, Err, OnOk, OnErr, refl, sym, ap}
use Rattle.std.proofs.Common.{subst, ◌∙◌, ◌+◌, ◌≤◌, get_or, arith}
use Rattle.std.proofs.lemmas.Bool.Decides.{nat_tests}
use Rattle.std.proofs.lemmas.Option.{slice_get_read, slice_get_within}
use Rattle.std.proofs.lemmas.List.{length-set, get_or-set_same}
use Rattle.osn_core.specs.declared.reader.ReaderState.{ReaderState}
use Rattle.osn_core.specs.Control.{reader_at, set_reader, Move, out_at, readers_after}

pub same_or_not : (a b : ℕ) → (a ≡ b) ⊎ (a ≡ b → ⊥)
same_or_not zero zero = inl refl
same_or_not zero (suc b) = inr (λ e. cc)
same_or_not (suc a) zero = inr (λ e. cc)
same_or_not (suc a) (suc b) = elim (same_or_not a b) [
  | inl e ↦ inl (ap suc e)
  | inr ne ↦ inr (λ e. ne (omega (arith, e)))
]

pub test_same : (a b : ℕ) → a ≡ b → (a == b) ≡ true
test_same a b e = grind (arith, nat_tests)

pub test_other : (a b : ℕ) → (a ≡ b → ⊥) → (a == b) ≡ false
test_other a b ne = grind (arith, nat_tests)

-- the state of a reader whose number is not 0 is at its place in the list
at_place : (readers : List ReaderState) (r : ℕ) →
    reader_at readers (suc r) ≡ slice_get readers r
at_place readers r =
    let other : (suc r == 0) ≡ false = grind (arith, nat_tests) in
    let less : suc r - 1 ≡ r = omega arith in
    ap (λ b. if b then None else slice_get readers (suc r - 1)) other ∙ ap (slice_get readers) less

set_place : (readers : List ReaderState) (r : ℕ) (x : ReaderState) →
    set_reader readers (suc r) x ≡ slice_set readers r x
set_place readers r x =
    let other : (suc r == 0) ≡ false = grind (arith, nat_tests) in
    let less : suc r - 1 ≡ r = omega arith in
    ap (λ b. if b then readers else slice_set readers (suc r - 1) x) other
    ∙ ap (λ i. slice_set readers i x) less

no_reader : (readers : List ReaderState) (x : ReaderState) → reader_at readers zero ≡ Some x → ⊥
no_reader readers x e = cc

get_set_other : (xs : List ReaderState) (i j : ℕ) (y : ReaderState) → (i ≡ j → ⊥) →
    slice_get (slice_set xs i y) j ≡ slice_get xs j
get_set_other [] i j y ne = refl
get_set_other (x ∷ xs) zero zero y ne = absurd (ne refl)
get_set_other (x ∷ xs) zero (suc j) y ne = refl
get_set_other (x ∷ xs) (suc i) zero y ne = refl
get_set_other (x ∷ xs) (suc i) (suc j) y ne = get_set_other xs i j y (λ e. ne (ap suc e))

get_set_same : (xs : List ReaderState) (i : ℕ) (x y : ReaderState) → slice_get xs i ≡ Some x →
    slice_get (slice_set xs i y) i ≡ Some y
get_set_same xs i x y is =
    let within : i < length xs = slice_get_within xs i x is in
    let long : length (slice_set xs i y) ≡ length xs = length-set xs i y in
    slice_get_read (slice_set xs i y) (length xs) i y (sym long) within
    (sym (get_or-set_same xs i y y within))

pub put_here : (readers : List ReaderState) (a : ℕ) (x y : ReaderState) →
    reader_at readers a ≡ Some x → reader_at (set_reader readers a y) a ≡ Some y
put_here readers zero x y is = absurd (no_reader readers x is)
put_here readers (suc a) x y is =
    ap (λ rs. reader_at rs (suc a)) (set_place readers a y)
    ∙ at_place (slice_set readers a y) a
    ∙ get_set_same readers a x y (sym (at_place readers a) ∙ is)

pub put_elsewhere : (readers : List ReaderState) (a r : ℕ) (y : ReaderState) → (a ≡ r → ⊥) →
    reader_at (set_reader readers a y) r ≡ reader_at readers r
put_elsewhere readers zero r y ne = refl
put_elsewhere readers (suc a) zero y ne = refl
put_elsewhere readers (suc a) (suc r) y ne =
    ap (λ rs. reader_at rs (suc r)) (set_place readers a y)
    ∙ at_place (slice_set readers a y) r
    ∙ get_set_other readers a r y (λ e. ne (ap suc e))
    ∙ sym (at_place readers r)

-- what holds of every reader still holds after one was put elsewhere, if it holds of that one
pub put_keeps : (P : ℕ → Option ReaderState → Type 0) (readers : List ReaderState) (a : ℕ)
    (x y : ReaderState) → reader_at readers a ≡ Some x →
    ((r : ℕ) → P r (reader_at readers r)) → P a (Some y) →
    (r : ℕ) → P r (reader_at (set_reader readers a y) r)
put_keeps P readers a x y is all here r = elim (same_or_not a r) [
  | inl e ↦ subst (λ r. P r (reader_at (set_reader readers a y) r)) e
      (subst (P a) (sym (put_here readers a x y is)) here)
  | inr ne ↦ subst (P r) (sym (put_elsewhere readers a r y ne)) (all r)
]

move_keeps_at : (P : ℕ → Option ReaderState → Type 0) (move : ReaderState → Move)
    (readers : List ReaderState) (a : ℕ) (at : Option ReaderState) → reader_at readers a ≡ at →
    ((r : ℕ) → P r (reader_at readers r)) →
    ((x : ReaderState) → P a (Some x) → P a (Some (move x).at)) →
    (r : ℕ) → P r (reader_at (readers_after move at readers a) r)
move_keeps_at P move readers a None is all kept r = all r
move_keeps_at P move readers a (Some x) is all kept r =
    put_keeps P readers a x (move x).at is all (kept x (subst (P a) is (all a))) r

pub move_keeps : (P : ℕ → Option ReaderState → Type 0) (move : ReaderState → Move)
    (readers : List ReaderState) (a : ℕ) → ((r : ℕ) → P r (reader_at readers r)) →
    ((x : ReaderState) → P a (Some x) → P a (Some (move x).at)) →
    (r : ℕ) → P r (reader_at (readers_after move (reader_at readers a) readers a) r)
move_keeps P move readers a all kept r =
    move_keeps_at P move readers a (reader_at readers a) refl all kept r

-- a reader that is put where it is
set_same : (xs : List ReaderState) (i : ℕ) (x : ReaderState) → slice_get xs i ≡ Some x →
    slice_set xs i x ≡ xs
set_same [] i x is = refl
set_same (y ∷ ys) zero x is = let same : y ≡ x = cc in ap (λ z. z ∷ ys) (sym same)
set_same (y ∷ ys) (suc i) x is = ap (λ zs. y ∷ zs) (set_same ys i x is)

pub put_same : (readers : List ReaderState) (a : ℕ) (x : ReaderState) →
    reader_at readers a ≡ Some x → set_reader readers a x ≡ readers
put_same readers zero x is = refl
put_same readers (suc a) x is =
    set_place readers a x ∙ set_same readers a x (sym (at_place readers a) ∙ is)

pub is_there : (readers : List ReaderState) (a : ℕ) (x : ReaderState) →
    reader_at readers a ≡ Some x → a ≤ length readers
is_there readers zero x is = absurd (no_reader readers x is)
is_there readers (suc a) x is =
    let within : a < length readers =
    slice_get_within readers a x (sym (at_place readers a) ∙ is) in
    omega (arith, within)

-- a call that may find no memory has changed what it says, or nothing
pub next_or_old : {A E X : Type 0} (r : Result A E) (new old next : X) → OnOk r (new ≡ next) →
    OnErr r (new ≡ old) → (new ≡ next) ⊎ (new ≡ old)
next_or_old (Ok a) new old next ok err = inl ok
next_or_old (Err e) new old next ok err = inr err

-- the reader whose place was found
found_at : (readers : List ReaderState) (reader i : ℕ) (x : ReaderState) {states : List ReaderState}
    → states ≡ readers → (reader ≡ i + 1) × (i < length readers) → x ≡ get_or states i x →
    reader_at readers reader ≡ Some x
found_at readers zero i x same at is = absurd (omega (arith, at.0))
found_at readers (suc r) i x same at is =
    let place : r ≡ i = omega (arith, at.0) in
    at_place readers r
    ∙ ap (slice_get readers) place
    ∙ slice_get_read readers (length readers) i x refl at.1
    (is ∙ ap (λ rs. get_or rs i x) same)

put_at : (readers : List ReaderState) (reader i : ℕ) (y : ReaderState) {states : List ReaderState} →
    states ≡ readers → (reader ≡ i + 1) × (i < length readers) →
    slice_set states i y ≡ set_reader readers reader y
put_at readers zero i y same at = absurd (omega (arith, at.0))
put_at readers (suc r) i y same at =
    let place : i ≡ r = omega (arith, at.0) in
    ap (λ rs. slice_set rs i y) same
    ∙ ap (λ j. slice_set readers j y) place
    ∙ sym (set_place readers r y)

-- what a step gives the reader that is there, and where it leaves all readers
pub out_found : (move : ReaderState → Move) {readers states : List ReaderState} {reader i : ℕ}
    {x : ReaderState} → states ≡ readers → (reader ≡ i + 1) × (i < length readers) →
    x ≡ get_or states i x → (move x).out ≡ out_at move (reader_at readers reader)
out_found move same at is = sym (ap (out_at move) (found_at _ _ _ _ same at is))

pub after_found : (move : ReaderState → Move) {readers states : List ReaderState} {reader i : ℕ}
    {x y : ReaderState} → states ≡ readers → (reader ≡ i + 1) × (i < length readers) →
    x ≡ get_or states i x → y ≡ (move x).at →
    slice_set states i y ≡ readers_after move (reader_at readers reader) readers reader
after_found move {readers = rs} {states = ss} {reader = r} {i = i} {x = x} same at is moved =
    ap (slice_set ss i) moved
    ∙ put_at rs r i (move x).at same at
    ∙ sym (ap (λ o. readers_after move o rs r) (found_at rs r i x same at is))
