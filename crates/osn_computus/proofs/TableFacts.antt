-- The closed formulas agree with the tables. The tests are computed once, over the 19 golden
-- numbers and over the 30 epacts and the 25 with prime. From them follows the moon of any year.
use Rattle.std.proofs.Common.{◌≡◌, ℕ, zero, suc, ◌+◌, ◌-◌, ◌*◌, ◌%◌, ◌<◌, ◌==◌, ◌&&◌, ◌||◌, inl}
use Rattle.std.proofs.Common.{inr, Bool, true, false, nat_lt, if◌then◌else◌, Option, Some, None}
use Rattle.std.proofs.Common.{refl, ap, ◌∙◌, arith, ℤ, pos, negsuc, unsigned_abs}
use Rattle.std.specs.Int.{int_rem_euclid}
use Rattle.std.proofs.lemmas.Bool.{and_parts, cases_order, false≢true}
use Rattle.std.proofs.lemmas.Bool.Decides.{Decides-and, Decides-eqb, Decides-ltb}
use Rattle.osn_computus.specs.declared.epact.Epact.{Epact}
use Rattle.osn_computus.specs.Figures.{golden_number, epact_number, gregorian_epact}
use Rattle.osn_computus.specs.Moon.{MonthDay, after_march_1, julian_full_moon, gregorian_new_moon}
use Rattle.osn_computus.specs.Moon.{plain, twenty_five_prime}

-- a test passes at each number below n
every : ℕ → (ℕ → Bool) → Bool
every zero test = true
every (suc n) test = test n && every n test

-- a test that passes at each number below n passes at one of them
every_at : (test : ℕ → Bool) (n k : ℕ) → every n test ≡ true → k < n → test k ≡ true
unfolding every
every_at test zero k h lt = absurd (omega arith)
every_at test (suc n) k h lt =
    let parts = and_parts (test n) (every n test) h in
    elim (cases_order k n) [
      | inl same ↦ rw same parts.0
      | inr (inl below) ↦ every_at test n k parts.1 below
      | inr (inr above) ↦ absurd (omega arith)
    ]

is_row : Option MonthDay → MonthDay → Bool
is_row None m = false
is_row (Some k) m = (k.month == m.month) && (k.day == m.day)

is_row_means : (o : Option MonthDay) (m : MonthDay) → is_row o m ≡ true → o ≡ Some m
unfolding is_row
is_row_means None m h = absurd (false≢true h)
is_row_means (Some k) m h =
    let parts = (Decides-and _ _ (Decides-eqb k.month m.month) (Decides-eqb k.day m.day)).0 h in
    ap (λ (x : ℕ). let d : MonthDay = record { month = x; day = k.day } in Some d) parts.0
    ∙ ap (λ (x : ℕ). let d : MonthDay = record { month = m.month; day = x } in Some d) parts.1

-- the days from 21 March to the moon of the years that have a remainder by 19
abbrev pub julian_days : ℕ → ℕ
julian_days a = (19 * a + 15) % 30

julian_agrees : ℕ → Bool
julian_agrees a = is_row (julian_full_moon (a + 1)) (after_march_1 (20 + julian_days a)) && nat_lt
    (julian_days a) 29

julian_computed : every 19 julian_agrees ≡ true
unfolding every julian_agrees is_row julian_full_moon
julian_computed = refl

pub julian_row : (y : ℕ)
    → (julian_full_moon (golden_number y) ≡ Some (after_march_1 (20 + julian_days (y % 19)))) ×
    (julian_days (y % 19) < 29)
unfolding julian_agrees
julian_row y =
    let parts = and_parts _ _ (every_at julian_agrees 19 (y % 19) julian_computed (omega arith)) in
    (is_row_means _ _ parts.0, (Decides-ltb _ _).0 parts.1)

-- the days from 21 March to the fourteenth day of the moon of an epact
abbrev pub gregorian_days : Epact → ℕ
gregorian_days e = (53 - e.number) % 30 - (if (e.number == 24) || e.prime then 1 else 0)

gregorian_agrees : Epact → Bool
gregorian_agrees e =
    is_row (gregorian_new_moon e) (after_march_1 (7 + gregorian_days e)) && nat_lt
    (gregorian_days e) 29

gregorian_computed : (gregorian_agrees twenty_five_prime && every 30
    (λ n. gregorian_agrees (plain n))) ≡ true
unfolding every gregorian_agrees is_row gregorian_new_moon
gregorian_computed = refl

epact_agrees : (n : ℕ) (b : Bool) → n < 30 → (b ≡ true → n ≡ 25)
    → gregorian_agrees (record { number = n; prime = b }) ≡ true
epact_agrees n true low is = rw (is refl) ((and_parts _ _ gregorian_computed).0)
epact_agrees n false low is =
    every_at (λ k. gregorian_agrees (plain k)) 30 n ((and_parts _ _ gregorian_computed).1) low

rem_below : (z : ℤ) → unsigned_abs (int_rem_euclid z (pos 30)) < 30
rem_below (pos a) = omega arith
rem_below (negsuc a) = omega arith

pub gregorian_row : (y : ℕ)
    → (gregorian_new_moon (gregorian_epact y) ≡ Some
    (after_march_1 (7 + gregorian_days (gregorian_epact y))))
    × (gregorian_days (gregorian_epact y) < 29)
unfolding gregorian_agrees
gregorian_row y =
    let agrees = epact_agrees (epact_number y)
    ((epact_number y == 25) && nat_lt 11 (golden_number y)) (rem_below _)
    (λ h. (Decides-eqb _ _).0 (and_parts _ _ h).0) in
    let parts = and_parts _ _ agrees in
    (is_row_means _ _ parts.0, (Decides-ltb _ _).0 parts.1)
