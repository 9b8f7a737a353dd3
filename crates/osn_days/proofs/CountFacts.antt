-- A count of days that goes up by one at each step of a chain finds the place of a date on it, in
-- the calendars that follow the lengths of the months.
use Rattle.std.proofs.Common.{◌≡◌, ◌≢◌, ◌↔◌, ℕ, ℤ, [], ◌∷◌, zero, suc, ◌+◌, ◌-◌, ◌*◌, ◌<◌, ◌≤◌, inl}
use Rattle.std.proofs.Common.{inr, nat_lt, refl, sym, ap, arith, pos, ◌+ℤ◌, ◌*ℤ◌, ◌<ℤ◌, ◌≤ℤ◌}
use Rattle.std.proofs.Common.{Option, None, Some, IsSome, IfSome}
use Rattle.std.specs.Option.{option_to_list}
use Rattle.std.proofs.lemmas.Bool.{cases_order, false≢true}
use Rattle.std.proofs.lemmas.Bool.{false_from_ne_true}
use borrow.Author.Differences.{up}
use Rattle.std.proofs.lemmas.Int.{ints, by_lt_z}
use Rattle.std.proofs.lemmas.Bool.{ltb-true, ltb-false}
use Rattle.osn_days.specs.declared.date.Date.{Date}
use Rattle.osn_days.specs.declared.calendar.Calendar.{Calendar}
use Rattle.osn_days.specs.declared.calendar.Calendar.TheVariants.{Julian, Gregorian, Swedish}
use Rattle.osn_days.specs.Rules.{Rules}
use Rattle.osn_days.specs.Line.{IsDay, IsOnLine}
use Rattle.osn_days.specs.Chain.{month_length, next_by_months, first_date, chain, date_of}
use Rattle.osn_days.specs.Chain.{same_date, days_with_date}
use Rattle.osn_days.proofs.ChainFacts.{chain-zero, chain-suc, next_is, cases_of_three}
use Rattle.osn_days.proofs.ChainFacts.{month_length_bounds, key, chain_rises}
use Rattle.osn_days.proofs.ChainFacts.{date_is, same_date_is, same_date_self, days_one}
use Rattle.osn_days.proofs.ChainFacts.{days_none}

-- the calendar has the date, in a year from 1 on
pub record IsReal (c : Calendar) (d : Date) : Type 0 where
  pub year_low : pos 1 ≤ℤ d.year
  pub month_low : 1 ≤ d.month
  pub month_high : d.month ≤ 12
  pub day_low : 1 ≤ d.day
  pub day_high : d.day ≤ month_length c d.year d.month

pub is_real : (c : Calendar) (d : Date) → pos 1 ≤ℤ d.year → 1 ≤ d.month → d.month ≤ 12 → 1 ≤ d.day
    → d.day ≤ month_length c d.year d.month → IsReal c d
is_real c d from low month first day = record {
  year_low = from;
  month_low = low;
  month_high = month;
  day_low = first;
  day_high = day;
}

first_real : (c : Calendar) → IsReal c (first_date c)
first_real Julian = is_real _ _ (search arith) (omega arith) (omega arith) (omega arith)
    (omega arith)
first_real Gregorian = is_real _ _ (search arith) (omega arith) (omega arith) (omega arith)
    (omega arith)
first_real Swedish = is_real _ _ (search arith) (omega arith) (omega arith) (omega arith)
    (omega arith)

next_real : (c : Calendar) (d : Date) → IsReal c d → IsReal c (next_by_months c d)
next_real c d s =
    cases_of_three (IsReal c) (nat_lt d.day (month_length c d.year d.month)) (nat_lt d.month 12)
    (record d { day = d.day + 1 }) (record {
      year = d.year;
      month = d.month + 1;
      day = 1;
    }) (record { year = d.year +ℤ pos 1; month = 1; day = 1 })
    (λ lt. let day = ltb-true _ _ lt in
    is_real _ _ s.year_low s.month_low s.month_high (omega arith) (omega arith))
    (λ _ lt. let month = ltb-true _ _ lt in
    let bound = month_length_bounds c d.year (d.month + 1) in
    is_real _ _ s.year_low (omega arith) (omega arith) (omega arith) (omega arith))
    (λ _ _. let bound = month_length_bounds c (d.year +ℤ pos 1) 1 in
    is_real _ _ (omega (arith, ints, s.year_low)) (omega arith) (omega arith) (omega arith)
    (omega arith))

-- each date of the chain is real
pub chain_real : (c : Calendar) (n : ℕ) → c ≢ Swedish → IsReal c (chain c n)
chain_real c zero h = rw chain-zero (first_real c)
chain_real c (suc n) h =
    rw chain-suc (rw (next_is c (chain c n) h) (next_real c (chain c n) (chain_real c n h)))

-- a later date in a month that is full at e is in a later month
later_month : (c : Calendar) (e d : Date) → IsReal c e → IsReal c d → key e <ℤ key d
    → month_length c e.year e.month ≤ e.day
    → (e.year *ℤ pos 512 +ℤ pos (e.month * 32 + 32)) <ℤ key d
later_month c e d r s lt full =
    let within = month_length_bounds c e.year e.month in
    let bound = month_length_bounds c d.year d.month in
    by_lt_z e.year d.year (λ later. omega (arith, ints))
    (λ le. let year : d.year ≡ e.year = omega (arith, ints) in
    elim (cases_order e.month d.month) [
      | inl month ↦ let here : d.day ≤ month_length c e.year e.month =
          rw (← year, month) s.day_high in absurd (omega (arith, ints))
      | inr (inl later) ↦ omega (arith, ints)
      | inr (inr before) ↦ absurd (omega (arith, ints))
    ])

-- no real date lies between a date and the next
next_least : (c : Calendar) (e d : Date) → IsReal c e → IsReal c d → key e <ℤ key d
    → key (next_by_months c e) ≤ℤ key d
next_least c e d r s lt =
    cases_of_three (λ x. key x ≤ℤ key d) (nat_lt e.day (month_length c e.year e.month))
    (nat_lt e.month 12)
    (record e { day = e.day + 1 }) (record {
      year = e.year;
      month = e.month + 1;
      day = 1;
    }) (record { year = e.year +ℤ pos 1; month = 1; day = 1 })
    (λ _. omega (arith, ints))
    (λ full _. let later = later_month c e d r s lt (ltb-false _ _ full) in omega (arith, ints))
    (λ full high. let later = later_month c e d r s lt (ltb-false _ _ full) in
    let december = ltb-false _ _ high in
    let bound = month_length_bounds c d.year d.month in omega (arith, ints))

-- real dates with one key are one
key_injective : (c : Calendar) (e d : Date) → IsReal c e → IsReal c d → key e ≡ key d → e ≡ d
key_injective c e d r s same =
    let within = month_length_bounds c e.year e.month in
    let bound = month_length_bounds c d.year d.month in
    let year : e.year ≡ d.year = omega (arith, ints) in
    let month : e.month ≡ d.month = omega (arith, ints) in
    let day : e.day ≡ d.day = omega (arith, ints) in
    date_is e d year month day

climb : (c : Calendar) (d : Date) → c ≢ Swedish → IsReal c d → (fuel n : ℕ)
    → key d ≤ℤ (key (chain c n) +ℤ pos fuel) → key (chain c n) ≤ℤ key d → (m : ℕ) × (chain c m ≡ d)
climb c d h s zero n near le =
    (n, key_injective c (chain c n) d (chain_real c n h) s (omega (arith, ints)))
climb c d h s (suc fuel) n near le =
    by_lt_z (key (chain c n)) (key d)
    (λ lt. let next_le = next_least c (chain c n) d (chain_real c n h) s lt in
    let rises = chain_rises c n (suc n) (omega arith) in
    climb c d h s fuel (suc n) (omega (arith, ints))
    (rw chain-suc (rw (next_is c (chain c n) h) next_le)))
    (λ ge. (n, key_injective c (chain c n) d (chain_real c n h) s (omega (arith, ints))))

-- a real date from the first on is on the chain
pub on_chain : (c : Calendar) (d : Date) → c ≢ Swedish → IsReal c d → key (first_date c) ≤ℤ key d
    → (m : ℕ) × (chain c m ≡ d)
on_chain c d h s low =
    let first = chain_real c 0 h in
    climb c d h s (up (key d)) 0 (omega (arith, ints, first.year_low)) (rw chain-zero low)

-- a count of days: it goes up by one at each step, and the real dates before the first have a
-- smaller one
pub record IsCount (c : Calendar) (count : Date → ℕ) : Type 0 where
  pub by_months : c ≢ Swedish
  pub steps : (d : Date) → IsReal c d → count (next_by_months c d) ≡ suc (count d)
  pub early : (d : Date) → IsReal c d → key d <ℤ key (first_date c) → count d < count (first_date c)

-- the date n days after day 1 has a count that is n more
pub count_chain : (c : Calendar) (count : Date → ℕ) → IsCount c count → (n : ℕ)
    → count (chain c n) ≡ n + count (first_date c)
count_chain c count k zero = rw chain-zero (omega arith)
count_chain c count k (suc n) =
    rw chain-suc (rw (next_is c (chain c n) k.by_months)
    (omega (arith, k.steps (chain c n) (chain_real c n k.by_months), count_chain c count k n)))

-- a real date is that of the day that its count gives
pub date_of_count : (c : Calendar) (count : Date → ℕ) → IsCount c count → (d : Date) (n : ℕ)
    → IsReal c d → 1 ≤ n → count d + 1 ≡ n + count (first_date c) → date_of c n ≡ d
date_of_count c count k d n s low e =
    by_lt_z (key d) (key (first_date c))
    (λ lt. absurd (omega (arith, k.early d s lt)))
    (λ ge. let found = on_chain c d k.by_months s ge in
    let place : n - 1 ≡ found.0 = omega (arith, count_chain c count k found.0, ap count found.1) in
    rw place found.1)

-- the day that the count of a real date gives is the one day with the date
pub days_of_count : (p : Rules) (c : Calendar) (count : Date → ℕ) → IsCount c count
    → (d : Date) (n : ℕ) → IsReal c d → IsDay p n → count d + 1 ≡ n + count (first_date c)
    → n ∷ [] ≡ days_with_date p c d
days_of_count p c count k d n s on e =
    sym (days_one p c d n on (rw (date_of_count c count k d n s on.0 e) (same_date_self d)))

-- a date that no day has
pub days_not : (p : Rules) (c : Calendar) (d : Date) → c ≢ Swedish
    → ((n : ℕ) → IsDay p n → IsReal c d → date_of c n ≡ d → ⊥) → [] ≡ days_with_date p c d
days_not p c d h none =
    sym (days_none p c d (λ n on. false_from_ne_true (same_date (date_of c n) d)
    (λ is. let same = same_date_is (date_of c n) d is in
    none n on (rw same at (chain_real c (n - 1) h)) same)))

-- the day of a number that a count gives, if the number is on the line
pub days_at_count : (p : Rules) (c : Calendar) (count : Date → ℕ) → IsCount c count → (d : Date)
    (z : ℤ) → (pos 1 ≤ℤ z → IsReal c d) → (z +ℤ pos (count (first_date c))) ≡ pos (count d + 1)
    → (day : Option ℕ) → (IsSome day ↔ IsOnLine p z) → IfSome day (λ n. pos n ≡ z)
    → option_to_list day ≡ days_with_date p c d
days_at_count p c count k d z real is None on value =
    days_not p c d k.by_months (λ n day s same.
    let place : z ≡ pos n =
    omega (arith, ints, count_chain c count k (n - 1), ap count same, day.0, is) in
    absurd (false≢true (on.1 (omega (arith, ints, place, day), omega (arith, ints, place, day)))))
days_at_count p c count k d z real is (Some n) on value =
    let line = on.0 refl in
    days_of_count p c count k d n (real line.0)
    (omega (arith, ints, line, value), omega (arith, ints, line, value))
    (omega (arith, ints, is, value))
