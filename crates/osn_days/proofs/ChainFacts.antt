-- The chain of dates rises, so a date comes once.
use Rattle.std.proofs.Common.{◌≡◌, ◌≢◌, ℕ, [], ◌∷◌, zero, suc, ◌+◌, ◌-◌, ◌*◌, ◌<◌, ◌≤◌, ◌⊎◌, inl}
use Rattle.std.proofs.Common.{inr, Bool, true, false, nat_lt, if◌then◌else◌, refl, sym, ap, ◌∙◌}
use Rattle.std.proofs.Common.{arith, ℤ, pos, ◌+ℤ◌, ◌*ℤ◌, ◌<ℤ◌, ◌≤ℤ◌}
use Rattle.std.proofs.lemmas.Bool.{false_from_ne_true}
use Rattle.std.proofs.lemmas.Bool.Decides.{Decides-and, Decides-eqb, Decides-int_eq}
use Rattle.std.proofs.lemmas.Int.{ints}
use Rattle.std.specs.Bool.{Decides}
use Rattle.std.proofs.lemmas.Bool.{ltb-true}
use Rattle.osn_days.specs.declared.date.Date.{Date}
use Rattle.osn_days.specs.declared.calendar.Calendar.{Calendar}
use Rattle.osn_days.specs.declared.calendar.Calendar.TheVariants.{Julian, Gregorian, Swedish}
use Rattle.osn_days.specs.Rules.{Rules}
use Rattle.osn_days.specs.Line.{line, IsDay}
use Rattle.osn_days.specs.Chain.{month_length, next, next_by_months, february, march_1, first_date}
use Rattle.osn_days.specs.Chain.{chain, date_of, same_date, days_with_date}
use Rattle.osn_days.proofs.RangeFacts.{filter_none, filter_one}

pub chain-zero : (c : Calendar) → chain c 0 ≡ first_date c
unfolding chain
chain-zero c = refl

pub chain-suc : (c : Calendar) (n : ℕ) → chain c (suc n) ≡ next c (chain c n)
unfolding chain
chain-suc c n = refl

-- in the calendars that follow the lengths of the months
pub next_is : (c : Calendar) (d : Date) → c ≢ Swedish → next c d ≡ next_by_months c d
next_is Julian d h = refl
next_is Gregorian d h = refl
next_is Swedish d h = absurd (h refl)

pub julian_by_months : Julian ≢ Swedish
julian_by_months e = cc

pub gregorian_by_months : Gregorian ≢ Swedish
gregorian_by_months e = cc

-- a date n days after day 1 or before: a month and a day of a month, in a year from 1 to n + 1
pub record IsSmall (n : ℕ) (d : Date) : Type 0 where
  pub year_low : pos 1 ≤ℤ d.year
  pub year_high : d.year ≤ℤ pos (n + 1)
  pub month_low : 1 ≤ d.month
  pub month_high : d.month ≤ 12
  pub day_low : 1 ≤ d.day
  pub day_high : d.day ≤ 31

is_small : (n : ℕ) (d : Date) → pos 1 ≤ℤ d.year → d.year ≤ℤ pos (n + 1) → 1 ≤ d.month
    → d.month ≤ 12 → 1 ≤ d.day → d.day ≤ 31 → IsSmall n d
is_small n d from year low month first day = record {
  year_low = from;
  year_high = year;
  month_low = low;
  month_high = month;
  day_low = first;
  day_high = day;
}

-- one of three, as `next` chooses
pub cases_of_three : {X : Type 0} (P : X → Type 0) (a b : Bool) (x y z : X) → (a ≡ true → P x)
    → (a ≡ false → b ≡ true → P y) → (a ≡ false → b ≡ false → P z)
    → P (if a then x else (if b then y else z))
cases_of_three P true b x y z f g h = f refl
cases_of_three P false true x y z f g h = g refl refl
cases_of_three P false false x y z f g h = h refl refl

cases_of_two : {X : Type 0} (P : X → Type 0) (a : Bool) (x y : X) → (a ≡ true → P x) → P y
    → P (if a then x else y)
cases_of_two P true x y f h = f refl
cases_of_two P false x y f h = h

pub month_length_bounds : (c : Calendar) (y : ℤ) (m : ℕ)
    → (month_length c y m ≤ 31) × (28 ≤ month_length c y m)
month_length_bounds c y m = grind arith

pub date_is : (a b : Date) → a.year ≡ b.year → a.month ≡ b.month → a.day ≡ b.day → a ≡ b
date_is a b year month day =
    ap (λ (y : ℤ). let d : Date = record { year = y; month = a.month; day = a.day } in d) year
    ∙ ap (λ (m : ℕ). let d : Date = record { year = b.year; month = m; day = a.day } in d) month
    ∙ ap (λ (n : ℕ). let d : Date = record { year = b.year; month = b.month; day = n } in d) day

same_date_decides : (a b : Date)
    → Decides (same_date a b) ((a.year ≡ b.year) × ((a.month ≡ b.month) × (a.day ≡ b.day)))
same_date_decides a b =
    Decides-and _ _ (Decides-int_eq a.year b.year)
    (Decides-and _ _ (Decides-eqb a.month b.month) (Decides-eqb a.day b.day))

pub same_date_is : (a b : Date) → same_date a b ≡ true → a ≡ b
same_date_is a b h =
    let parts = (same_date_decides a b).0 h in
    date_is a b parts.0 parts.1.0 parts.1.1

months_small : (c : Calendar) (d : Date) (n : ℕ) → IsSmall n d
    → IsSmall (suc n) (next_by_months c d)
months_small c d n s =
    cases_of_three (IsSmall (suc n)) (nat_lt d.day (month_length c d.year d.month))
    (nat_lt d.month 12)
    (record d { day = d.day + 1 }) (record {
      year = d.year;
      month = d.month + 1;
      day = 1;
    }) (record { year = d.year +ℤ pos 1; month = 1; day = 1 })
    (λ lt. let day = ltb-true _ _ lt in let bound = month_length_bounds c d.year d.month in
    is_small _ _ s.year_low (omega (arith, ints)) s.month_low s.month_high (omega arith)
    (omega arith))
    (λ _ lt. let month = ltb-true _ _ lt in
    is_small _ _ s.year_low (omega (arith, ints)) (omega arith) (omega arith) (omega arith)
    (omega arith))
    (λ _ _. is_small _ _ (omega (arith, ints)) (omega (arith, ints)) (omega arith) (omega arith)
    (omega arith) (omega arith))

-- one of four, as `next` chooses in Sweden
cases_in_sweden : (P : Date → Type 0) (d : Date) → (d ≡ february 1700 28 → P (march_1 1700))
    → (d ≡ february 1712 29 → P (february 1712 30)) → (d ≡ february 1712 30 → P (march_1 1712))
    → P (next_by_months Julian d) → P (next Swedish d)
cases_in_sweden P d f g h k =
    cases_of_three P (same_date d (february 1700 28)) (same_date d (february 1712 29))
    (march_1 1700) (february 1712 30)
    (if same_date d (february 1712 30) then march_1 1712 else next_by_months Julian d)
    (λ is. f (same_date_is d (february 1700 28) is))
    (λ _ is. g (same_date_is d (february 1712 29) is))
    (λ _ _. cases_of_two P (same_date d (february 1712 30)) (march_1 1712) (next_by_months Julian d)
    (λ is. h (same_date_is d (february 1712 30) is)) k)

next_small : (c : Calendar) (d : Date) (n : ℕ) → IsSmall n d → IsSmall (suc n) (next c d)
next_small Julian d n s = months_small Julian d n s
next_small Gregorian d n s = months_small Gregorian d n s
next_small Swedish d n s =
    cases_in_sweden (IsSmall (suc n)) d
    (λ is. let year : d.year ≡ pos 1700 = ap (λ (e : Date). e.year) is in
    is_small _ _ (search arith) (omega (arith, ints, s.year_high)) (omega arith) (omega arith)
    (omega arith) (omega arith))
    (λ is. let year : d.year ≡ pos 1712 = ap (λ (e : Date). e.year) is in
    is_small _ _ (search arith) (omega (arith, ints, s.year_high)) (omega arith) (omega arith)
    (omega arith) (omega arith))
    (λ is. let year : d.year ≡ pos 1712 = ap (λ (e : Date). e.year) is in
    is_small _ _ (search arith) (omega (arith, ints, s.year_high)) (omega arith) (omega arith)
    (omega arith) (omega arith))
    (months_small Julian d n s)

first_small : (c : Calendar) → IsSmall 0 (first_date c)
first_small Julian = is_small _ _ (search arith) (search arith) (omega arith) (omega arith)
    (omega arith) (omega arith)
first_small Gregorian = is_small _ _ (search arith) (search arith) (omega arith) (omega arith)
    (omega arith) (omega arith)
first_small Swedish = is_small _ _ (search arith) (search arith) (omega arith) (omega arith)
    (omega arith) (omega arith)

pub chain_small : (c : Calendar) (n : ℕ) → IsSmall n (chain c n)
chain_small c zero = rw chain-zero (first_small c)
chain_small c (suc n) = rw chain-suc (next_small c (chain c n) n (chain_small c n))

-- a number that orders as dates do
abbrev pub key : Date → ℤ
key d = d.year *ℤ pos 512 +ℤ pos (d.month * 32 + d.day)

months_rise : (c : Calendar) (d : Date) (n : ℕ) → IsSmall n d → key d <ℤ key (next_by_months c d)
months_rise c d n s =
    cases_of_three (λ e. key d <ℤ key e) (nat_lt d.day (month_length c d.year d.month))
    (nat_lt d.month 12)
    (record d { day = d.day + 1 }) (record {
      year = d.year;
      month = d.month + 1;
      day = 1;
    }) (record { year = d.year +ℤ pos 1; month = 1; day = 1 })
    (λ lt. omega (arith, ints))
    (λ _ lt. omega (arith, ints))
    (λ _ _. omega (arith, ints))

next_rises : (c : Calendar) (d : Date) (n : ℕ) → IsSmall n d → key d <ℤ key (next c d)
next_rises Julian d n s = months_rise Julian d n s
next_rises Gregorian d n s = months_rise Gregorian d n s
next_rises Swedish d n s =
    cases_in_sweden (λ e. key d <ℤ key e) d
    (λ is. rw is (search arith))
    (λ is. rw is (search arith))
    (λ is. rw is (search arith))
    (months_rise Julian d n s)

chain_rises_by : (c : Calendar) (n k : ℕ) → key (chain c n) <ℤ key (chain c (suc k + n))
chain_rises_by c n zero =
    let one : suc 0 + n ≡ suc n = omega arith in
    rw one (rw chain-suc (next_rises c (chain c n) n (chain_small c n)))
chain_rises_by c n (suc k) =
    let more : suc (suc k) + n ≡ suc (suc k + n) = omega arith in
    let before = chain_rises_by c n k in
    let step = next_rises c (chain c (suc k + n)) (suc k + n) (chain_small c (suc k + n)) in
    rw more (rw chain-suc (omega (arith, ints)))

pub chain_rises : (c : Calendar) (m n : ℕ) → m < n → key (chain c m) <ℤ key (chain c n)
chain_rises c m n lt =
    let at : suc (n - suc m) + m ≡ n = omega arith in
    rw at at (chain_rises_by c m (n - suc m))

-- two days have two dates
pub chain_apart : (c : Calendar) (m n : ℕ) → m < n ⊎ (n < m) → chain c m ≡ chain c n → ⊥
chain_apart c m n (inl lt) e = omega (arith, ints, chain_rises c m n lt, ap key e)
chain_apart c m n (inr gt) e = omega (arith, ints, chain_rises c n m gt, ap key e)

pub same_date_self : (a : Date) → same_date a a ≡ true
same_date_self a = (same_date_decides a a).1 (refl, (refl, refl))

-- a date is that of no other day
pub date_apart : (c : Calendar) (date : Date) (d e : ℕ) → 1 ≤ d → 1 ≤ e
    → same_date (date_of c d) date ≡ true → e < d ⊎ (d < e) → same_date (date_of c e) date ≡ false
date_apart c date d e dl el is apart =
    false_from_ne_true (same_date (date_of c e) date) (λ too. chain_apart c (e - 1) (d - 1)
    (elim apart [ inl lt ↦ inl (omega arith) | inr gt ↦ inr (omega arith) ])
    (same_date_is (date_of c e) date too ∙ sym (same_date_is (date_of c d) date is)))

-- the days with a date are the one that has it
pub days_one : (p : Rules) (c : Calendar) (date : Date) (d : ℕ) → IsDay p d
    → same_date (date_of c d) date ≡ true → days_with_date p c date ≡ d ∷ []
unfolding days_with_date line
days_one p c date d on is =
    filter_one (λ e. same_date (date_of c e) date) 1 p.high d on.0 (omega arith) is
    (λ e low high apart. date_apart c date d e on.0 low is apart)

-- there are no days with a date that no day has
pub days_none : (p : Rules) (c : Calendar) (date : Date)
    → ((d : ℕ) → IsDay p d → same_date (date_of c d) date ≡ false) → days_with_date p c date ≡ []
unfolding days_with_date line
days_none p c date none =
    filter_none (λ e. same_date (date_of c e) date) 1 p.high
    (λ d low high. none d (low, omega arith))
