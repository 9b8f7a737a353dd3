-- The digits of the later of two years that the earlier one does not show, digit by digit from the
-- last.
use Rattle.std.proofs.Common.{◌≡◌, ℕ, ◌+◌, ◌*◌, ◌/◌, ◌%◌, ◌<◌, ◌≤◌, ◌^◌, inl, inr, Bool, true}
use Rattle.std.proofs.Common.{false, ◌==◌, if◌then◌else◌, List, [], ◌∷◌, ◌++◌, length, refl, sym}
use Rattle.std.proofs.Common.{ap, ◌∙◌, arith, length-append}
use Rattle.std.specs.Fmt.{decimal}
use Rattle.std.proofs.lemmas.Fmt.{decimal_digit, decimal_step, decimal_nonempty, decimal_injective}
use Rattle.std.proofs.lemmas.Bool.{cases_order}
use Rattle.std.proofs.lemmas.Bool.{false_from_ne_true}
use Rattle.std.proofs.lemmas.Bool.Decides.{Decides-eqb}
use Rattle.osn_territory.specs.Dual.{from_difference, later_digits}

eq_self : (n : ℕ) → (n == n) ≡ true
eq_self n = (Decides-eqb n n).1 refl

not_eq : (m n : ℕ) → (m ≡ n → ⊥) → (m == n) ≡ false
not_eq m n apart = false_from_ne_true (m == n) (λ same. apart ((Decides-eqb m n).0 same))

eq_is : (m n : ℕ) → (m == n) ≡ true → m ≡ n
eq_is m n h = (Decides-eqb m n).0 h

not_eq_is : (m n : ℕ) → (m == n) ≡ false → m ≡ n → ⊥
not_eq_is m n h same = let is : true ≡ false = sym ((Decides-eqb m n).1 same) ∙ h in cc

below_ten_or_not : {P : Type 0} (n : ℕ) → (n < 10 → P) → (10 ≤ n → P) → P
below_ten_or_not n below ten =
    elim (cases_order n 10) [
      | inl same ↦ ten (omega arith)
      | inr (inl lt) ↦ below lt
      | inr (inr gt) ↦ ten (omega arith)
    ]

-- a common front is left out
front_is_left_out : (xs : List ℕ) (a b : ℕ) → (a ≡ b → ⊥) →
    from_difference (xs ++ a ∷ []) (xs ++ b ∷ []) ≡ b ∷ []
front_is_left_out [] a b apart = rw (not_eq a b apart) refl
front_is_left_out (x ∷ xs) a b apart = rw (eq_self x) (front_is_left_out xs a b apart)

differs_by_first : (x y : ℕ) (rest more : List ℕ) (ys : List ℕ) (b : ℕ) (t : Bool) → (x == y) ≡ t →
    (x ≡ y → more ≡ rest ++ b ∷ []) → (if x == y then more else y ∷ (ys ++ b ∷ [])) ≡ (if x == y
    then rest else y ∷ ys) ++ b ∷ []
differs_by_first x y rest more ys b true is same = rw is (same (eq_is x y is))
differs_by_first x y rest more ys b false is same = rw is refl

-- fronts of one length that differ
front_differs : (xs ys : List ℕ) (a b : ℕ) → length xs ≡ length ys → (xs ≡ ys → ⊥) →
    from_difference (xs ++ a ∷ []) (ys ++ b ∷ []) ≡ from_difference xs ys ++ b ∷ []
front_differs [] [] a b same apart = absurd (apart refl)
front_differs [] (y ∷ ys) a b same apart = absurd (omega arith)
front_differs (x ∷ xs) [] a b same apart = absurd (omega arith)
front_differs (x ∷ xs) (y ∷ ys) a b same apart =
    differs_by_first x y (from_difference xs ys) (from_difference (xs ++ a ∷ []) (ys ++ b ∷ [])) ys
    b (x == y) refl
    (λ first. front_differs xs ys a b (omega arith) (λ rest. apart (cc (first, rest))))

same_length : (xs ys : List ℕ) → length xs ≡ length ys → later_digits xs ys ≡ from_difference xs ys
same_length xs ys same = rw ((Decides-eqb (length xs) (length ys)).1 same) refl

other_length : (xs ys : List ℕ) → (length xs ≡ length ys → ⊥) → later_digits xs ys ≡ ys
other_length xs ys apart = rw (not_eq (length xs) (length ys) apart) refl

length_more : (xs : List ℕ) (a : ℕ) → length (xs ++ a ∷ []) ≡ length xs + 1
length_more xs a = simp length-append

-- one digit more after two numbers that differ
more_by_length : (xs ys : List ℕ) (a b : ℕ) (t : Bool) → (xs ≡ ys → ⊥) →
    (length xs == length ys) ≡ t → later_digits (xs ++ a ∷ []) (ys ++ b ∷ []) ≡ later_digits xs ys
    ++ b ∷ []
more_by_length xs ys a b true apart is =
    let same = eq_is (length xs) (length ys) is in
    same_length (xs ++ a ∷ []) (ys ++ b ∷ [])
    (omega (arith, same, length_more xs a, length_more ys b))
    ∙ front_differs xs ys a b same apart ∙ ap (λ ds. ds ++ b ∷ []) (sym (same_length xs ys same))
more_by_length xs ys a b false apart is =
    let differ = not_eq_is (length xs) (length ys) is in
    other_length (xs ++ a ∷ []) (ys ++ b ∷ []) (λ same.
    differ (omega (arith, same, length_more xs a, length_more ys b)))
    ∙ ap (λ ds. ds ++ b ∷ []) (sym (other_length xs ys differ))

later_digits-more : (xs ys : List ℕ) (a b : ℕ) → (xs ≡ ys → ⊥) →
    later_digits (xs ++ a ∷ []) (ys ++ b ∷ []) ≡ later_digits xs ys ++ b ∷ []
later_digits-more xs ys a b apart = more_by_length xs ys a b (length xs == length ys) apart refl

-- a number of one digit and a longer one
digit_and_longer : (d n : ℕ) → 10 ≤ n → n < 2 ^ 64 → later_digits (d ∷ []) (decimal n) ≡ decimal n
digit_and_longer d n ten fits =
    other_length (d ∷ []) (decimal n)
    (λ same. omega (
      arith,
      same,
      ap length (decimal_step n ten fits),
      length_more (decimal (n / 10)) (48 + n % 10),
      decimal_nonempty (n / 10) (omega arith),
    ))

-- two numbers of one digit
digits_differ : (a b : ℕ) → (a ≡ b → ⊥) → later_digits (a ∷ []) (b ∷ []) ≡ b ∷ []
digits_differ a b apart = rw (not_eq a b apart) refl

-- 0 and a greater number
zero_and_more : (n : ℕ) → 0 < n → n < 2 ^ 64 → later_digits (48 ∷ []) (decimal n) ≡ decimal n
zero_and_more n low fits =
    below_ten_or_not n
    (λ below. rw (decimal_digit n below) (digits_differ 48 (48 + n) (λ e. omega arith)))
    (λ ten. digit_and_longer 48 n ten fits)

-- two years that differ in their last digit alone
pub last_digit_differs : (earlier later : ℕ) → earlier < later → later < 2 ^ 64 →
    earlier / 10 ≡ later / 10 → decimal (later % 10) ≡ later_digits (decimal earlier)
    (decimal later)
last_digit_differs e l lt fits same =
    below_ten_or_not e
    (λ below. let low : l < 10 = omega arith in
    let digit : l % 10 ≡ l = omega arith in
    rw (digit, decimal_digit e below, decimal_digit l low)
    (sym (digits_differ (48 + e) (48 + l) (λ q. omega arith))))
    (λ ten. let front : decimal l ≡ decimal (e / 10) ++ (48 + l % 10) ∷ [] =
    decimal_step l (omega arith) fits ∙ ap (λ n. decimal n ++ (48 + l % 10) ∷ []) (sym same) in
    decimal_digit (l % 10) (omega arith)
    ∙ sym (rw (decimal_step e ten (omega arith), front)
    (same_length (decimal (e / 10) ++ (48 + e % 10) ∷ []) (decimal (e / 10) ++ (48 + l % 10) ∷ [])
    (length_more _ _ ∙ sym (length_more _ _))
    ∙ front_is_left_out (decimal (e / 10)) (48 + e % 10) (48 + l % 10) (λ q. omega arith))))

-- the last digit of the later year follows those shown of the digits before it
last_digit_follows : (e l : ℕ) → e < l → l < 2 ^ 64 → (e / 10 ≡ l / 10 → ⊥) →
    later_digits (decimal e) (decimal l) ≡ later_digits (decimal (e / 10)) (decimal (l / 10))
    ++ (48 + l % 10) ∷ []
last_digit_follows e l lt fits apart =
    below_ten_or_not e
    (λ below. let ten : 10 ≤ l = omega arith in
    let none : e / 10 ≡ 0 = omega arith in
    let some : 0 < l / 10 = omega arith in
    rw (
      none,
      decimal_digit e below,
      decimal_digit 0 (omega arith),
      zero_and_more (l / 10) some (omega arith),
    )
    (digit_and_longer (48 + e) l ten fits ∙ decimal_step l ten fits))
    (λ ten. rw (decimal_step e ten (omega arith), decimal_step l (omega arith) fits)
    (later_digits-more (decimal (e / 10)) (decimal (l / 10)) (48 + e % 10) (48 + l % 10)
    (λ same. apart (decimal_injective (e / 10) (l / 10) (omega arith) (omega arith) same))))

decimal_joined : (n d : ℕ) → 1 ≤ n → d < 10 → 10 * n + d < 2 ^ 64 → decimal (10 * n + d) ≡ decimal n
    ++ (48 + d) ∷ []
decimal_joined n d low digit fits =
    let front : (10 * n + d) / 10 ≡ n = omega arith in
    let last : (10 * n + d) % 10 ≡ d = omega arith in
    decimal_step (10 * n + d) (omega arith) fits
    ∙ ap (λ m. decimal m ++ (48 + (10 * n + d) % 10) ∷ []) front
    ∙ ap (λ m. decimal n ++ (48 + m) ∷ []) last

-- two years that differ before it
pub earlier_digit_differs : (earlier later part : ℕ) → earlier < later → later < 2 ^ 64 →
    (earlier / 10 ≡ later / 10 → ⊥) → 1 ≤ part → 10 * part + later % 10 ≤ later →
    decimal part ≡ later_digits (decimal (earlier / 10)) (decimal (later / 10)) →
    decimal (10 * part + later % 10) ≡ later_digits (decimal earlier) (decimal later)
earlier_digit_differs e l part lt fits apart low within is =
    decimal_joined part (l % 10) low (omega arith) (omega arith)
    ∙ ap (λ ds. ds ++ (48 + l % 10) ∷ []) is
    ∙ sym (last_digit_follows e l lt fits apart)
