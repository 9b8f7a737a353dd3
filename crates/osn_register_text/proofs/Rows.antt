-- Lists of pairs whose first members ascend, and what a look-up finds in them.
use Rattle.std.proofs.Common.{◌≡◌, ℕ, inl, inr, ◌+◌, ◌<◌, ◌≤◌, true, cond, ◌==◌, length, List, []}
use Rattle.std.proofs.Common.{◌∷◌, Option, Some, None, is_some, refl, sym, ap, subst, ◌∙◌, arith}
use Rattle.std.proofs.lemmas.Bool.{eq-eqb, ne_eqb, cases_eq, cases_order, false≢true}
use Rattle.std.specs.Map.{lookup}

pub not_none : {X Y : Type 0} {x : X} → Some x ≡ None → Y
not_none h = absurd (false≢true (sym (ap is_some h)))

pub some_is : {X : Type 0} {x y : X} → Some x ≡ Some y → x ≡ y
some_is h = cc

-- the value of a key
abbrev pub look : {V : Type 0} → ℕ → List (ℕ × V) → Option V
look k xs = lookup (λ key. k == key) xs

-- the keys ascend, from this number on
abbrev pub IsFrom : {V : Type 0} → ℕ → List (ℕ × V) → Type 0
IsFrom n [] = Unit {0}
IsFrom n (x ∷ xs) = (n ≤ x.0) × IsFrom (x.0 + 1) xs

module _ {V : Type 0} where
  pub look_here : (k : ℕ) (x : ℕ × V) (xs : List (ℕ × V)) → k ≡ x.0 → look k (x ∷ xs) ≡ Some x.1
  look_here k x xs e = ap (λ b. cond b (Some x.1) (look k xs)) (eq-eqb k x.0 e)

  pub look_there : (k : ℕ) (x : ℕ × V) (xs : List (ℕ × V)) → (k ≡ x.0 → ⊥) →
      look k (x ∷ xs) ≡ look k xs
  look_there k x xs apart = ap (λ b. cond b (Some x.1) (look k xs)) (ne_eqb k x.0 apart)

  pub look_below : (k n : ℕ) (xs : List (ℕ × V)) → k < n → IsFrom n xs → look k xs ≡ None
  look_below k n [] low from = refl
  look_below k n (x ∷ xs) low from =
      look_there k x xs (λ e. omega (arith, from.0))
      ∙ look_below k (x.0 + 1) xs (omega (arith, from.0)) from.1

  -- a key that is not found is not the first
  pub parts : (k : ℕ) (x : ℕ × V) (xs : List (ℕ × V)) → look k (x ∷ xs) ≡ None →
      (k ≡ x.0 → ⊥) × (look k xs ≡ None)
  parts k x xs none = elim (cases_eq k x.0) [
    | inl e ↦ not_none (sym (look_here k x xs e) ∙ none)
    | inr apart ↦ (apart, sym (look_there k x xs apart) ∙ none)
  ]

  pub weaken : (m n : ℕ) (xs : List (ℕ × V)) → m ≤ n → IsFrom n xs → IsFrom m xs
  weaken m n [] low from = tt
  weaken m n (x ∷ xs) low from = (omega (arith, from.0), from.1)

  tails : (x y : ℕ × V) (xs ys : List (ℕ × V)) → x.0 ≡ y.0 → IsFrom (x.0 + 1) xs →
      IsFrom (y.0 + 1) ys → ((k : ℕ) → look k (x ∷ xs) ≡ look k (y ∷ ys)) → (k : ℕ) →
      look k xs ≡ look k ys
  tails x y xs ys e from other same k = elim (cases_eq k x.0) [
    | inl here ↦ look_below k (x.0 + 1) xs (omega arith) from
        ∙ sym (look_below k (y.0 + 1) ys (omega arith) other)
    | inr apart ↦ sym (look_there k x xs apart) ∙ same k ∙ look_there k y ys (λ h. apart
        (h ∙ sym e))
  ]

  -- ascending lists with one value for each key are one list
  pub ext : (n : ℕ) (xs ys : List (ℕ × V)) → IsFrom n xs → IsFrom n ys →
      ((k : ℕ) → look k xs ≡ look k ys) → xs ≡ ys
  ext n [] [] from other same = refl
  ext n [] (y ∷ ys) from other same = not_none (sym (look_here y.0 y ys refl) ∙ sym (same y.0))
  ext n (x ∷ xs) [] from other same = not_none (sym (look_here x.0 x xs refl) ∙ same x.0)
  ext n (x ∷ xs) (y ∷ ys) from other same = elim (cases_order x.0 y.0) [
    | inl e ↦
        let value : x.1 ≡ y.1 = some_is (sym (look_here x.0 x xs refl) ∙ same x.0
        ∙ look_here x.0 y ys e) in
        let rest : xs ≡ ys = ext (x.0 + 1) xs ys from.1
        (subst (λ m. IsFrom (m + 1) ys) (sym e) other.1) (tails x y xs ys e from.1 other.1 same) in
        ap (λ (m : ℕ). let p : ℕ × V = (m, x.1) in p ∷ xs) e
        ∙ ap (λ (v : V). let p : ℕ × V = (y.0, v) in p ∷ xs) value
        ∙ ap (λ zs. y ∷ zs) rest
    | inr apart ↦ elim apart [
      | inl low ↦ not_none (sym (look_here x.0 x xs refl) ∙ same x.0
          ∙ look_below x.0 y.0 (y ∷ ys) low (omega arith, other.1))
      | inr high ↦ not_none (sym (look_here y.0 y ys refl) ∙ sym (same y.0)
          ∙ look_below y.0 x.0 (x ∷ xs) high (omega arith, from.1))
    ]
  ]

  within_tail : (x y : ℕ × V) (xs ys : List (ℕ × V)) → x.0 ≡ y.0 → IsFrom (x.0 + 1) xs →
      ((k : ℕ) → is_some (look k (x ∷ xs)) ≡ true → is_some (look k (y ∷ ys)) ≡ true) → (k : ℕ) →
      is_some (look k xs) ≡ true → is_some (look k ys) ≡ true
  within_tail x y xs ys e from within k some = elim (cases_eq k x.0) [
    | inl here ↦ absurd (false≢true (sym (ap is_some
        (look_below k (x.0 + 1) xs (omega arith) from)) ∙ some))
    | inr apart ↦ sym (ap is_some (look_there k y ys (λ h. apart (h ∙ sym e))))
        ∙ within k (ap is_some (look_there k x xs apart) ∙ some)
  ]

  within_rest : (x y : ℕ × V) (xs ys : List (ℕ × V)) → y.0 < x.0 → IsFrom (x.0 + 1) xs →
      ((k : ℕ) → is_some (look k (x ∷ xs)) ≡ true → is_some (look k (y ∷ ys)) ≡ true) → (k : ℕ) →
      is_some (look k (x ∷ xs)) ≡ true → is_some (look k ys) ≡ true
  within_rest x y xs ys high from within k some = elim (cases_eq k y.0) [
    | inl here ↦ absurd (false≢true (sym (ap is_some
        (look_below k x.0 (x ∷ xs) (omega arith) (omega arith, from))) ∙ some))
    | inr apart ↦ sym (ap is_some (look_there k y ys apart)) ∙ within k some
  ]

  -- ascending keys that are all among those of another list are at most as many
  pub fewer : (n : ℕ) (xs ys : List (ℕ × V)) → IsFrom n xs → IsFrom n ys →
      ((k : ℕ) → is_some (look k xs) ≡ true → is_some (look k ys) ≡ true) → length xs ≤ length ys
  fewer n [] ys from other within = omega arith
  fewer n (x ∷ xs) [] from other within =
      absurd (false≢true (within x.0 (ap is_some (look_here x.0 x xs refl))))
  fewer n (x ∷ xs) (y ∷ ys) from other within = elim (cases_order x.0 y.0) [
    | inl e ↦
        let rest : length xs ≤ length ys = fewer (x.0 + 1) xs ys from.1
        (subst (λ m. IsFrom (m + 1) ys) (sym e) other.1) (within_tail x y xs ys e from.1 within) in
        omega (arith, rest)
    | inr apart ↦ elim apart [
      | inl low ↦ absurd (false≢true (sym (ap is_some
          (look_below x.0 y.0 (y ∷ ys) low (omega arith, other.1)))
          ∙ within x.0 (ap is_some (look_here x.0 x xs refl))))
      | inr high ↦
          let rest : length (x ∷ xs) ≤ length ys = fewer (y.0 + 1) (x ∷ xs) ys
          (omega arith, from.1) other.1 (within_rest x y xs ys high from.1 within) in
          omega (arith, rest)
    ]
  ]

-- the keys of some rows and of others ascend, and the first ones are all among the others
pub record IsWithin {V : Type 0} (xs ys : List (ℕ × V)) : Type 0 where
  pub from : IsFrom 0 xs
  pub other : IsFrom 0 ys
  pub among : (k : ℕ) → is_some (look k xs) ≡ true → is_some (look k ys) ≡ true

module _ {V : Type 0} where
  -- with a change at one key that is among the others
  pub within_one : (xs zs ys : List (ℕ × V)) (key : ℕ) → IsWithin xs ys → IsFrom 0 zs →
      is_some (look key ys) ≡ true → ((k : ℕ) → (k ≡ key → ⊥) → look k zs ≡ look k xs) →
      IsWithin zs ys
  within_one xs zs ys key within from has there = record {
    from = from;
    other = within.other;
    among = λ k some. elim (cases_eq k key) [
      | inl e ↦ ap (λ d. is_some (look d ys)) e ∙ has
      | inr apart ↦ within.among k (sym (ap is_some (there k apart)) ∙ some)
    ];
  }

  pub has_room : (xs zs ys : List (ℕ × V)) → IsWithin zs ys → length zs ≡ length xs + 1 →
      length xs < length ys
  has_room xs zs ys within more =
      omega (arith, more, fewer 0 zs ys within.from within.other within.among)
