-- The days of the first rules are in years of the first rules.
use Rattle.std.proofs.Common.{◌≡◌, ℕ, ◌+◌, ◌-◌, ◌≤◌, inl, inr, refl, arith, pos, ◌≤ℤ◌}
use Rattle.std.proofs.lemmas.Bool.{cases_order}
use Rattle.std.proofs.lemmas.Int.{ints, by_lt_z}
use Rattle.jiff_core.specs.Calendar.{day_count}
use Rattle.jiff_core.proofs.MarchLemmas.{day_count-late}
use Rattle.jiff_core.proofs.CalendarLemmas.{day_count-lt_year}
use Rattle.osn_days.specs.declared.date.Date.{Date}
use Rattle.osn_days.specs.declared.calendar.Calendar.{Calendar}
use Rattle.osn_days.specs.declared.calendar.Calendar.TheVariants.{Julian, Gregorian, Swedish}
use Rattle.osn_days.specs.Rules.{first_rules}
use Rattle.osn_days.specs.Line.{IsDay, IsYearNumber}
use Rattle.osn_days.specs.Chain.{date_of}
use Rattle.osn_days.proofs.ChainFacts.{julian_by_months, gregorian_by_months, chain_small}
use Rattle.osn_days.proofs.CountFacts.{IsReal, chain_real}
use Rattle.osn_days.proofs.GregorianFacts.{gregorian_count, gregorian_place}
use Rattle.osn_days.proofs.JulianFacts.{julian_count, julian_place, julian_count-early}
use Rattle.osn_days.proofs.JulianFacts.{julian_count-late}
use Rattle.osn_days.proofs.SwedishFacts.{swedish_cases}

julian_last : (d : Date) → IsReal Julian d → julian_count d ≤ first_rules.high + 308
    → d.year ≤ℤ pos first_rules.last_year
julian_last d s high =
    elim (cases_order d.month 2) [
      | inl here ↦ omega (arith, ints, s.year_low, julian_count-early d (omega arith))
      | inr (inl early) ↦ omega
          (arith, ints, s.year_low, s.month_low, julian_count-early d (omega arith))
      | inr (inr late) ↦ omega (arith, ints, s.year_low, julian_count-late d late)
    ]

last_day : day_count (pos first_rules.last_year) 12 31 ≡ first_rules.high + 3_652_790
last_day =
    day_count-late (pos first_rules.last_year) (first_rules.last_year + 10000) 12 31 refl
    (omega arith) (omega arith) (omega arith)

gregorian_last : (d : Date) → IsReal Gregorian d
    → gregorian_count d ≤ first_rules.high + 3_652_790 → d.year ≤ℤ pos first_rules.last_year
gregorian_last d s high =
    by_lt_z (pos first_rules.last_year) d.year
    (λ lt. absurd (omega (
      arith,
      last_day,
      day_count-lt_year (pos first_rules.last_year) 12 31 d.year d.month
          d.day (search arith, omega arith, omega arith) s.day_low lt,
    )))
    (λ le. le)

last_julian_year : (n : ℕ) → IsDay first_rules n
    → (date_of Julian n).year ≤ℤ pos first_rules.last_year
last_julian_year n on =
    julian_last (date_of Julian n) (chain_real Julian (n - 1) julian_by_months)
    (omega (arith, on, julian_place (date_of Julian n) n on.0 refl))

last_year : (c : Calendar) (n : ℕ) → IsDay first_rules n
    → (date_of c n).year ≤ℤ pos first_rules.last_year
last_year Julian n on = last_julian_year n on
last_year Gregorian n on =
    gregorian_last (date_of Gregorian n) (chain_real Gregorian (n - 1) gregorian_by_months)
    (omega (arith, on, gregorian_place (date_of Gregorian n) n on.0 refl))
last_year Swedish n on =
    swedish_cases (λ d. d.year ≤ℤ pos first_rules.last_year) n
    (λ _. last_julian_year n on)
    (λ low high. last_julian_year (n + 1) (omega arith, omega arith))
    (λ _. search arith)
    (λ _. last_julian_year n on)

pub year_of_first_rules : (c : Calendar) (n : ℕ) → IsDay first_rules n
    → IsYearNumber first_rules (date_of c n).year
year_of_first_rules c n on = ((chain_small c (n - 1)).year_low, last_year c n on)
