-- The days of the Gregorian calendar are counted by `jiff_core`.
use Rattle.std.proofs.Common.{◌≡◌, ℕ, suc, ◌+◌, ◌-◌, ◌≤◌, nat_lt, refl, ap, arith, pos, ◌+ℤ◌, ◌≤ℤ◌}
use Rattle.std.proofs.lemmas.Int.{ints, by_lt_z}
use Rattle.std.proofs.lemmas.Bool.{ltb-false}
use Rattle.jiff_core.specs.Calendar.{day_count, IsCivilDate}
use Rattle.jiff_core.specs.Date.{epoch_day}
use Rattle.jiff_core.specs.declared.civil.date.Date.{Date as Made}
use Rattle.jiff_core.proofs.SignedLemmas.{signed_arith}
use Rattle.jiff_core.proofs.MarchLemmas.{day_count-early, day_count-late}
use Rattle.jiff_core.proofs.CalendarLemmas.{days_from_civil-day_count, day_count-day}
use Rattle.jiff_core.proofs.CalendarLemmas.{day_count-next_month, day_count-next_year}
use Rattle.jiff_core.proofs.CalendarLemmas.{day_count-last_of_year, day_count-lt_year}
use Rattle.osn_days.specs.Rules.{newest_rules}
use Rattle.osn_days.specs.declared.date.Date.{Date}
use Rattle.osn_days.specs.declared.calendar.Calendar.TheVariants.{Gregorian}
use Rattle.osn_days.specs.Chain.{month_length, next, date_of}
use Rattle.osn_days.proofs.ChainFacts.{gregorian_by_months, cases_of_three, month_length_bounds}
use Rattle.osn_days.proofs.CountFacts.{IsReal, is_real, IsCount, count_chain}

-- the days from 1 January of the year -10000 to a date
abbrev pub gregorian_count : Date → ℕ
gregorian_count d = day_count d.year d.month d.day

pub gregorian_first : day_count (pos 1) 1 1 ≡ 3_652_791
gregorian_first = day_count-early (pos 1) 10000 1 1 refl (omega arith) (omega arith) (omega arith)

pub gregorian_last : day_count (pos newest_rules.last_year) 12 31 ≡ newest_rules.high + 3_652_790
gregorian_last =
    day_count-late (pos newest_rules.last_year) (newest_rules.last_year + 10000) 12 31 refl
    (omega arith) (omega arith) (omega arith)

gregorian_steps : (d : Date) → IsReal Gregorian d
    → gregorian_count (next Gregorian d) ≡ suc (gregorian_count d)
gregorian_steps d s =
    let bound = month_length_bounds Gregorian d.year d.month in
    cases_of_three (λ e. gregorian_count e ≡ suc (gregorian_count d))
    (nat_lt d.day (month_length Gregorian d.year d.month)) (nat_lt d.month 12)
    (record d { day = d.day + 1 }) (record {
      year = d.year;
      month = d.month + 1;
      day = 1;
    }) (record { year = d.year +ℤ pos 1; month = 1; day = 1 })
    (λ _. omega (arith, day_count-day d.year d.month d.day (d.day + 1) s.day_low (omega arith)))
    (λ full _. let last = ltb-false _ _ full in
    omega (
      arith,
      s.day_high,
      day_count-next_month d.year d.month s.month_low,
      day_count-day d.year
          d.month d.day 1 s.day_low (omega arith),
    ))
    (λ full high. let last = ltb-false _ _ full in let after = ltb-false _ _ high in
    let december : d.month ≡ 12 = omega arith in
    let day : d.day ≡ 31 = omega (arith, rw december at s.day_high, rw december at last) in
    rw (december, day) (omega (
      arith,
      day_count-next_year d.year (d.year +ℤ pos 1) (omega (arith, signed_arith, s.year_low))
          refl,
      day_count-last_of_year d.year,
    )))

pub gregorian_is : IsCount Gregorian gregorian_count
gregorian_is = record {
  by_months = gregorian_by_months;
  steps = gregorian_steps;
  early = λ d s lt. absurd (omega (arith, ints, s.year_low, s.month_low, s.day_low));
}

-- the count of day n is n + 3652790
pub gregorian_place : (d : Date) (n : ℕ) → 1 ≤ n → date_of Gregorian n ≡ d
    → gregorian_count d ≡ n + 3_652_790
gregorian_place d n low same =
    omega (
      arith,
      gregorian_first,
      ap gregorian_count same,
      count_chain Gregorian gregorian_count
          gregorian_is (n - 1),
    )

-- the dates of the line are those from the year 1 to its last year
pub gregorian_last_year : (d : Date) → IsReal Gregorian d
    → gregorian_count d ≤ newest_rules.high + 3_652_790 → d.year ≤ℤ pos newest_rules.last_year
gregorian_last_year d s high =
    by_lt_z (pos newest_rules.last_year) d.year
    (λ lt. absurd (omega (
      arith,
      gregorian_last,
      day_count-lt_year (pos newest_rules.last_year) 12 31 d.year d.month
          d.day (search arith, omega arith, omega arith) s.day_low lt,
    )))
    (λ le. le)

-- a date that `jiff_core` has is real if its count is not below that of day 1
pub gregorian_real : (d : Date) → IsCivilDate d.year d.month d.day → 3_652_791 ≤ gregorian_count d
    → IsReal Gregorian d
gregorian_real d h low =
    let year : pos 1 ≤ℤ d.year = by_lt_z d.year (pos 1)
    (λ lt. absurd (omega (
      arith,
      gregorian_first,
      day_count-lt_year d.year d.month d.day (pos 1) 1 1
          h (omega arith) lt,
    )))
    (λ le. le) in
    is_real _ _ year h.1.0 h.1.1 h.2.0 h.2.1

-- the days that `jiff_core` counts from 1 January of the year -9999
pub gregorian_days : (made : Made) (d : Date) (days : ℕ)
    → (made.year ≡ d.year) × (made.month ≡ d.month) × (made.day ≡ d.day)
    → (epoch_day made +ℤ pos 4_371_587) ≡ pos days → gregorian_count d ≡ days + 366
gregorian_days made d days is e =
    rw (← is.0, ← is.1, ← is.2)
    (omega (arith, signed_arith, days_from_civil-day_count made.year made.month made.day))
