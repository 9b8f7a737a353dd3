-- The digits of a number with leading zeros, and of a date.
use Rattle.std.proofs.Common.{◌≡◌, ◌<◌, ◌≤◌, ℕ, ◌+◌, ◌-◌, ◌/◌, ◌%◌, ◌^◌, [], ◌∷◌, ◌++◌, length}
use Rattle.std.proofs.Common.{replicate, refl, sym, ap, ◌∙◌, ⊎_elim, arith, append_assoc}
use Rattle.std.proofs.Common.{length-append}
use Rattle.std.specs.Fmt.{decimal, styled_decimal, format_spec}
use Rattle.std.proofs.Padding.{padded_integral_zeros}
use Rattle.std.proofs.lemmas.Bool.{cases_lt}
use Rattle.std.proofs.lemmas.Fmt.{decimal_digit, decimal_step}
use Rattle.osn_days.specs.DateText.{at_least, date_digits}

-- what `{:04}` writes
pub at_least_four : (n : ℕ) → styled_decimal (format_spec 32 0 4 4 (2 ^ 64 - 1)) n ≡ at_least 4 n
at_least_four n = padded_integral_zeros (format_spec 32 0 4 4 (2 ^ 64 - 1)) (decimal n) refl refl

-- and `{:02}`
pub at_least_two : (n : ℕ) → styled_decimal (format_spec 32 0 4 2 (2 ^ 64 - 1)) n ≡ at_least 2 n
at_least_two n = padded_integral_zeros (format_spec 32 0 4 2 (2 ^ 64 - 1)) (decimal n) refl refl

-- ---- the digits one by one

at_least-longer : (w n : ℕ) → 10 ≤ n → n < 2 ^ 64
    → at_least (w + 1) n ≡ at_least w (n / 10) ++ (48 + n % 10) ∷ []
at_least-longer w n long fits =
    let front = decimal (n / 10) in
    let last = (48 + n % 10) ∷ [] in
    let zeros : (w + 1) - length (front ++ last) ≡ w - length front =
    omega (arith, length-append front last) in
    rw (decimal_step n long fits, zeros)
    (sym (append_assoc (replicate (w - length front) 48) front last))

below_ten : (n : ℕ) → n < 10 → (n / 10 ≡ 0) × (n % 10 ≡ n)
below_ten n low = (omega arith, omega arith)

two_of_digit : (n : ℕ) → n < 10 → at_least 2 n ≡ at_least 1 (n / 10) ++ (48 + n % 10) ∷ []
two_of_digit n low =
    let b = below_ten n low in
    rw (b.0, b.1, decimal_digit n low, decimal_digit 0 (omega arith)) refl

three_of_digit : (n : ℕ) → n < 10 → at_least 3 n ≡ at_least 2 (n / 10) ++ (48 + n % 10) ∷ []
three_of_digit n low =
    let b = below_ten n low in
    rw (b.0, b.1, decimal_digit n low, decimal_digit 0 (omega arith)) refl

four_of_digit : (n : ℕ) → n < 10 → at_least 4 n ≡ at_least 3 (n / 10) ++ (48 + n % 10) ∷ []
four_of_digit n low =
    let b = below_ten n low in
    rw (b.0, b.1, decimal_digit n low, decimal_digit 0 (omega arith)) refl

two_by_last : (n : ℕ) → n < 2 ^ 64 → at_least 2 n ≡ at_least 1 (n / 10) ++ (48 + n % 10) ∷ []
two_by_last n fits =
    ⊎_elim (λ low. two_of_digit n low) (λ long. at_least-longer 1 n long fits)
    (cases_lt n 10)

three_by_last : (n : ℕ) → n < 2 ^ 64 → at_least 3 n ≡ at_least 2 (n / 10) ++ (48 + n % 10) ∷ []
three_by_last n fits =
    ⊎_elim (λ low. three_of_digit n low) (λ long. at_least-longer 2 n long fits)
    (cases_lt n 10)

four_by_last : (n : ℕ) → n < 2 ^ 64 → at_least 4 n ≡ at_least 3 (n / 10) ++ (48 + n % 10) ∷ []
four_by_last n fits =
    ⊎_elim (λ low. four_of_digit n low) (λ long. at_least-longer 3 n long fits)
    (cases_lt n 10)

one : (n : ℕ) → n < 10 → at_least 1 n ≡ (48 + n) ∷ []
one n low = rw (decimal_digit n low) refl

-- two digits
pub two_digits : (n : ℕ) → n < 100 → at_least 2 n ≡ (48 + n / 10) ∷ (48 + n % 10) ∷ []
two_digits n low =
    two_by_last n (omega arith)
    ∙ ap (λ front. front ++ (48 + n % 10) ∷ []) (one (n / 10) (omega arith))

-- four digits
pub four_digits : (n : ℕ) → n < 10000
    → at_least 4 n ≡ (48 + n / 10 / 10 / 10) ∷ (48 + n / 10 / 10 % 10) ∷ (48 + n / 10 % 10) ∷
    (48 + n % 10) ∷ []
four_digits n low =
    four_by_last n (omega arith)
    ∙ ap (λ front. front ++ (48 + n % 10) ∷ [])
    (three_by_last (n / 10) (omega arith)
    ∙ ap (λ front. front ++ (48 + n / 10 % 10) ∷ [])
    (two_by_last (n / 10 / 10) (omega arith)
    ∙ ap (λ front. front ++ (48 + n / 10 / 10 % 10) ∷ []) (one (n / 10 / 10 / 10) (omega arith))))

-- a date's digits one by one
pub date_digits-digits : (y m d : ℕ) → y < 10000 → m < 100 → d < 100
    → date_digits y m d ≡ (48 + y / 10 / 10 / 10) ∷ (48 + y / 10 / 10 % 10)
    ∷ (48 + y / 10 % 10) ∷ (48 + y % 10) ∷ 45 ∷ (48 + m / 10) ∷ (48 + m % 10)
    ∷ 45 ∷ (48 + d / 10) ∷ (48 + d % 10) ∷ []
date_digits-digits y m d hy hm hd =
    rw (four_digits y hy, two_digits m hm, two_digits d hd) refl
