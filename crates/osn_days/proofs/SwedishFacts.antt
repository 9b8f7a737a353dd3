-- The dates of the Swedish calendar by those of the Julian. They are the same before day 620617 and
-- from day 625001 on, and from day 620617 to 624999 those of the next day.
use Rattle.std.proofs.Common.{◌≡◌, ◌≢◌, ℕ, zero, suc, ◌+◌, ◌-◌, ◌≤◌, inl, inr, false, refl, sym, ap}
use Rattle.std.proofs.Common.{subst, ◌∙◌, arith}
use Rattle.std.proofs.lemmas.Bool.{cases_order, cases_lt}
use Rattle.std.proofs.lemmas.Bool.{false_from_ne_true}
use Rattle.osn_days.specs.declared.date.Date.{Date}
use Rattle.osn_days.specs.declared.calendar.Calendar.TheVariants.{Julian, Swedish}
use Rattle.osn_days.specs.Chain.{next, february, march_1, first_date, chain, date_of, same_date}
use Rattle.osn_days.proofs.ChainFacts.{chain-zero, chain-suc, julian_by_months, chain_apart}
use Rattle.osn_days.proofs.ChainFacts.{same_date_is}
use Rattle.osn_days.proofs.CountFacts.{IsReal, is_real, chain_real, date_of_count}
use Rattle.osn_days.proofs.JulianFacts.{julian_count, julian_is}

-- the Julian dates of the days around the changes
julian_february : (y d n : ℕ) → IsReal Julian (february y d) → 1 ≤ n
    → julian_count (february y d) + 1 ≡ n + julian_count (first_date Julian)
    → chain Julian (n - 1) ≡ february y d
julian_february y d n s low e = date_of_count Julian julian_count julian_is (february y d) n s low e

february_28 : chain Julian 620615 ≡ february 1700 28
february_28 =
    julian_february 1700 28 620616
    (is_real _ _ (search arith) (omega arith) (omega arith) (omega arith) (omega arith))
    (omega arith) (omega arith)

february_29 : chain Julian 624999 ≡ february 1712 29
february_29 =
    julian_february 1712 29 625000
    (is_real _ _ (search arith) (omega arith) (omega arith) (omega arith) (omega arith))
    (omega arith) (omega arith)

julian_march : (y n : ℕ) → IsReal Julian (march_1 y) → 1 ≤ n
    → julian_count (march_1 y) + 1 ≡ n + julian_count (first_date Julian)
    → chain Julian (n - 1) ≡ march_1 y
julian_march y n s low e = date_of_count Julian julian_count julian_is (march_1 y) n s low e

march_1_1700 : chain Julian 620617 ≡ march_1 1700
march_1_1700 =
    julian_march 1700 620618
    (is_real _ _ (search arith) (omega arith) (omega arith) (omega arith) (omega arith))
    (omega arith) (omega arith)

march_1_1712 : chain Julian 625000 ≡ march_1 1712
march_1_1712 =
    julian_march 1712 625001
    (is_real _ _ (search arith) (omega arith) (omega arith) (omega arith) (omega arith))
    (omega arith) (omega arith)

-- a day has another date than a day before or after it
other_date : (m n : ℕ) (d : Date) → chain Julian n ≡ d → m ≢ n
    → same_date (chain Julian m) d ≡ false
other_date m n d is other =
    false_from_ne_true (same_date (chain Julian m) d) (λ same.
    let clash : chain Julian m ≡ chain Julian n = same_date_is (chain Julian m) d same ∙ sym is in
    elim (cases_order m n) [
      | inl here ↦ other here
      | inr apart ↦ chain_apart Julian m n apart clash
    ])

-- the Julian calendar has no 30 February
no_february_30 : (m : ℕ) → same_date (chain Julian m) (february 1712 30) ≡ false
no_february_30 m =
    false_from_ne_true (same_date (chain Julian m) (february 1712 30)) (λ same.
    let real : IsReal Julian (february 1712 30) =
    rw (same_date_is (chain Julian m) (february 1712 30) same) at
    (chain_real Julian m julian_by_months) in
    absurd (omega (arith, real.day_high)))

-- a step from a date that keeps its successor
next_alike : (d : Date) → same_date d (february 1700 28) ≡ false
    → same_date d (february 1712 29) ≡ false → same_date d (february 1712 30) ≡ false
    → next Swedish d ≡ next Julian d
next_alike d a b e = rw a (rw b (rw e refl))

step_alike : (n m : ℕ) → chain Swedish n ≡ chain Julian m → m ≢ 620615 → m ≢ 624999
    → chain Swedish (suc n) ≡ chain Julian (suc m)
step_alike n m is a b =
    chain-suc Swedish n ∙ ap (next Swedish) is
    ∙ next_alike (chain Julian m) (other_date m 620615 (february 1700 28) february_28 a)
    (other_date m 624999 (february 1712 29) february_29 b) (no_february_30 m)
    ∙ sym (chain-suc Julian m)

-- up to 28 February 1700
before : (n : ℕ) → n ≤ 620615 → chain Swedish n ≡ chain Julian n
before zero high = chain-zero Swedish ∙ sym (chain-zero Julian)
before (suc n) high = step_alike n n (before n (omega arith)) (omega arith) (omega arith)

-- its successor is 1 March 1700
from_february_28 : (n : ℕ) → chain Swedish n ≡ february 1700 28
    → chain Swedish (suc n) ≡ march_1 1700
from_february_28 n is = chain-suc Swedish n ∙ ap (next Swedish) is

-- up to 29 February 1712
ahead : (k : ℕ) → k ≤ 4382 → chain Swedish (k + 620616) ≡ chain Julian (k + 620617)
ahead zero high = from_february_28 620615 (before 620615 (omega arith) ∙ february_28)
    ∙ sym march_1_1700
ahead (suc k) high =
    let here : suc k + 620616 ≡ suc (k + 620616) = omega arith in
    let there : suc k + 620617 ≡ suc (k + 620617) = omega arith in
    rw (here, there) (step_alike (k + 620616) (k + 620617) (ahead k (omega arith)) (omega arith)
    (omega arith))

from_february_29 : (n : ℕ) → chain Swedish n ≡ february 1712 29
    → (chain Swedish (suc n) ≡ february 1712 30) × (chain Swedish (suc (suc n)) ≡ march_1 1712)
from_february_29 n is =
    let leap : chain Swedish (suc n) ≡ february 1712 30 = chain-suc Swedish n
    ∙ ap (next Swedish) is in
    (leap, chain-suc Swedish (suc n) ∙ ap (next Swedish) leap)

-- after 29 February 1712 come 30 February and 1 March
turn : (chain Swedish 624999 ≡ february 1712 30) × (chain Swedish 625000 ≡ march_1 1712)
turn = from_february_29 624998 (ahead 4382 (omega arith) ∙ february_29)

after : (k : ℕ) → chain Swedish (k + 625000) ≡ chain Julian (k + 625000)
after zero = turn.1 ∙ sym march_1_1712
after (suc k) =
    let here : suc k + 625000 ≡ suc (k + 625000) = omega arith in
    rw here (step_alike (k + 625000) (k + 625000) (after k) (omega arith) (omega arith))

-- the Swedish date of each day, by the Julian date of a day
pub swedish_before : (d : ℕ) → d ≤ 620616 → date_of Swedish d ≡ date_of Julian d
swedish_before d high = before (d - 1) (omega arith)

pub swedish_ahead : (d : ℕ) → 620617 ≤ d → d ≤ 624999 → date_of Swedish d ≡ date_of Julian (d + 1)
swedish_ahead d low high =
    let here : d - 620617 + 620616 ≡ d - 1 = omega arith in
    let there : d - 620617 + 620617 ≡ d + 1 - 1 = omega arith in
    rw (here, there) at (ahead (d - 620617) (omega arith))

pub swedish_extra : date_of Swedish 625000 ≡ february 1712 30
swedish_extra = turn.0

pub swedish_after : (d : ℕ) → 625001 ≤ d → date_of Swedish d ≡ date_of Julian d
swedish_after d low =
    let here : d - 625001 + 625000 ≡ d - 1 = omega arith in
    rw here at (after (d - 625001))

-- what the date of a day is, by those ranges
pub swedish_cases : (P : Date → Type 0) (d : ℕ) → (d ≤ 620616 → P (date_of Julian d))
    → (620617 ≤ d → d ≤ 624999 → P (date_of Julian (d + 1))) → (d ≡ 625000 → P (february 1712 30))
    → (625001 ≤ d → P (date_of Julian d)) → P (date_of Swedish d)
swedish_cases P d before ahead extra after =
    elim (cases_lt d 620617) [
      | inl lt ↦ subst P (sym (swedish_before d (omega arith))) (before (omega arith))
      | inr ge ↦
          elim (cases_order d 625000) [
            | inl here ↦ subst (λ (n : ℕ). P (date_of Swedish n)) (sym here)
                (subst P (sym swedish_extra) (extra here))
            | inr (inl lt) ↦ subst P (sym (swedish_ahead d (omega arith) (omega arith)))
                (ahead (omega arith) (omega arith))
            | inr (inr gt) ↦ subst P (sym (swedish_after d (omega arith))) (after (omega arith))
          ]
    ]
