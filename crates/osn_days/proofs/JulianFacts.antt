-- The days of the Julian calendar in closed form, by years that begin on 1 March, so that a leap
-- day comes last.
use Rattle.std.proofs.Common.{◌==◌, inl, inr, ◌≡◌, ℕ, suc, ◌+◌, ◌-◌, ◌*◌, ◌/◌, ◌%◌, ◌<◌, ◌≤◌}
use Rattle.std.proofs.Common.{nat_lt, cond, refl, ap, ◌∙◌, arith, ℤ, pos, ◌+ℤ◌, ◌<ℤ◌, ◌≤ℤ◌}
use Rattle.std.proofs.Common.{unsigned_abs}
use Rattle.std.proofs.lemmas.Bool.{cases_order}
use Rattle.std.proofs.lemmas.Bool.Decides.{nat_tests}
use Rattle.std.proofs.lemmas.Int.{ints}
use Rattle.std.proofs.lemmas.Bool.{ltb-true, ltb-false}
use Rattle.osn_days.specs.Rules.{newest_rules}
use Rattle.osn_days.specs.declared.date.Date.{Date}
use Rattle.osn_days.specs.declared.calendar.Calendar.TheVariants.{Julian}
use Rattle.osn_days.specs.Chain.{month_length, next, first_date, date_of}
use Rattle.osn_days.proofs.ChainFacts.{julian_by_months, cases_of_three, month_length_bounds}
use Rattle.osn_days.proofs.ChainFacts.{key}
use Rattle.osn_days.proofs.CountFacts.{IsReal, IsCount, count_chain}

-- the days up to a date, of a year that begins in March and has the months 3 to 14
abbrev pub march_count : ℕ → ℕ → ℕ → ℕ
march_count y m d = 1461 * y / 4 + (153 * (m - 3) + 2) / 5 + d

-- the days from 1 March of year 0 up to a date
abbrev pub julian_count : Date → ℕ
julian_count d =
    cond (nat_lt 2 d.month) (march_count (unsigned_abs d.year) d.month d.day)
    (march_count (unsigned_abs d.year - 1) (d.month + 12) d.day)

-- the count of a date from March on
pub julian_count-late : (d : Date) → 2 < d.month
    → julian_count d ≡ march_count (unsigned_abs d.year) d.month d.day
julian_count-late d h = grind (arith, nat_tests)

-- the count of a date before March, which is in the year before
pub julian_count-early : (d : Date) → d.month ≤ 2
    → julian_count d ≡ march_count (unsigned_abs d.year - 1) (d.month + 12) d.day
julian_count-early d h = grind (arith, nat_tests)

-- the lengths of the months
late_month : (y : ℤ) (m : ℕ) → 3 ≤ m → m < 12
    → (153 * (m - 2) + 2) / 5 ≡ (153 * (m - 3) + 2) / 5 + month_length Julian y m
late_month y m low high = grind (arith, nat_tests)

january : (y : ℤ) → month_length Julian y 1 ≡ 31
january y = refl

february : (y : ℤ) → pos 1 ≤ℤ y
    → 1461 * unsigned_abs y / 4 ≡ 1461 * (unsigned_abs y - 1) / 4 + 337 + month_length Julian y 2
february y h = let low : 1 ≤ unsigned_abs y = omega (arith, ints) in grind (arith, nat_tests)

next_month : (d : Date) → IsReal Julian d → d.day ≡ month_length Julian d.year d.month
    → d.month < 12 → julian_count (record {
      year = d.year;
      month = d.month + 1;
      day = 1;
    }) ≡ suc (julian_count d)
next_month d s last lt =
    elim (cases_order d.month 2) [
      | inl here ↦ let days = february d.year s.year_low in
          let day : d.day ≡ month_length Julian d.year 2 = last
          ∙ ap (month_length Julian d.year) here in
          rw here (omega (arith, day, days))
      | inr (inl early) ↦ let here : d.month ≡ 1 = omega (arith, s.month_low) in
          let day : d.day ≡ month_length Julian d.year 1 = last
          ∙ ap (month_length Julian d.year) here in
          rw here (omega (arith, day, january d.year))
      | inr (inr late) ↦ let days = late_month d.year d.month late lt in
          rw (
            julian_count-late d late,
            julian_count-late (record {
              year = d.year;
              month = d.month + 1;
              day = 1;
            }) (omega arith),
          ) (omega (arith, last, days))
    ]

next_year : (d : Date) → IsReal Julian d → d.day ≡ month_length Julian d.year d.month → d.month ≡ 12
    → julian_count (record { year = d.year +ℤ pos 1; month = 1; day = 1 }) ≡ suc (julian_count d)
next_year d s last here =
    let day : d.day ≡ 31 = last ∙ ap (month_length Julian d.year) here in
    let year : unsigned_abs (d.year +ℤ pos 1) - 1 ≡ unsigned_abs d.year =
    omega (arith, ints, s.year_low) in
    rw (here, day, year) (omega arith)

julian_steps : (d : Date) → IsReal Julian d → julian_count (next Julian d) ≡ suc (julian_count d)
julian_steps d s =
    let bound = month_length_bounds Julian d.year d.month in
    cases_of_three (λ e. julian_count e ≡ suc (julian_count d))
    (nat_lt d.day (month_length Julian d.year d.month)) (nat_lt d.month 12)
    (record d { day = d.day + 1 }) (record {
      year = d.year;
      month = d.month + 1;
      day = 1;
    }) (record { year = d.year +ℤ pos 1; month = 1; day = 1 })
    (λ _. grind (arith, nat_tests))
    (λ full lt. next_month d s (omega (arith, s.day_high, ltb-false _ _ full)) (ltb-true _ _ lt))
    (λ full high. next_year d s (omega (arith, s.day_high, ltb-false _ _ full))
    (omega (arith, s.month_high, ltb-false _ _ high)))

julian_early : (d : Date) → IsReal Julian d → key d <ℤ key (first_date Julian)
    → julian_count d < julian_count (first_date Julian)
julian_early d s lt =
    let year : unsigned_abs d.year ≡ 1 = omega (arith, ints, s.year_low, s.month_low) in
    let month : d.month ≡ 1 = omega (arith, ints, s.year_low, s.month_low) in
    let day : d.day < 3 = omega (arith, ints, s.year_low, s.month_low) in
    rw (year, month) (omega arith)

pub julian_is : IsCount Julian julian_count
julian_is = record { by_months = julian_by_months; steps = julian_steps; early = julian_early }

-- the count of day n is n + 308
pub julian_place : (d : Date) (n : ℕ) → 1 ≤ n → date_of Julian n ≡ d → julian_count d ≡ n + 308
julian_place d n low same =
    omega (arith, ap julian_count same, count_chain Julian julian_count julian_is (n - 1))

-- the line ends in its last year
pub julian_last_year : (d : Date) → IsReal Julian d → julian_count d ≤ newest_rules.high + 308
    → d.year ≤ℤ pos newest_rules.last_year
julian_last_year d s high =
    elim (cases_order d.month 2) [
      | inl here ↦ omega (arith, ints, s.year_low, julian_count-early d (omega arith))
      | inr (inl early) ↦ omega
          (arith, ints, s.year_low, s.month_low, julian_count-early d (omega arith))
      | inr (inr late) ↦ omega (arith, ints, s.year_low, julian_count-late d late)
    ]

-- a day of such a year, as a month from 3 to 14 and a day of that month: from March to December the
-- month has that day
pub late_day : (y : ℤ) (n : ℕ) → ((5 * n + 2) / 153 + 3) ≤ 12
    → (5 * n + 2) % 153 / 5 + 1 ≤ month_length Julian y (((5 * n + 2) / 153 + 3))
late_day y n h = grind (arith, nat_tests)

-- January has it too, and February if the year has that many days
pub early_day : (y : ℕ) (n : ℕ) → 12 < ((5 * n + 2) / 153 + 3) → n < 365 + cond (y % 4 == 0) 1 0
    → (5 * n + 2) % 153 / 5 + 1 ≤ month_length Julian (pos y) (((5 * n + 2) / 153 + 3) - 12)
early_day y n h k = grind (arith, nat_tests)
