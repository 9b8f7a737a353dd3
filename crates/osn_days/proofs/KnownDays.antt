-- The definitions give days that are known from elsewhere.
use Rattle.std.proofs.Common.{◌≡◌, ℕ, ◌+◌, ◌≤◌, refl, arith, pos}
use Rattle.std.proofs.lemmas.Int.{ints}
use Rattle.jiff_core.proofs.MarchLemmas.{day_count-early, day_count-late}
use Rattle.osn_days.specs.Rules.{newest_rules}
use Rattle.osn_days.specs.declared.date.Date.{Date}
use Rattle.osn_days.specs.declared.calendar.Calendar.{Calendar}
use Rattle.osn_days.specs.declared.calendar.Calendar.TheVariants.{Julian, Gregorian}
use Rattle.osn_days.specs.Line.{weekday, julian_day}
use Rattle.osn_days.specs.Chain.{month_length, first_date, date_of}
use Rattle.osn_days.proofs.CountFacts.{IsReal, is_real, date_of_count}
use Rattle.osn_days.proofs.GregorianFacts.{gregorian_count, gregorian_is, gregorian_first}
use Rattle.osn_days.proofs.GregorianFacts.{gregorian_last}
use Rattle.osn_days.proofs.JulianFacts.{julian_count, julian_is}

abbrev date : ℕ → ℕ → ℕ → Date
date y m d = record { year = pos y; month = m; day = d }

abbrev IsIn : Calendar → ℕ → ℕ → ℕ → Type 0
IsIn c y m d = (1 ≤ y) × (1 ≤ m) × (m ≤ 12) × (1 ≤ d) × (d ≤ month_length c (pos y) m)

real : (c : Calendar) (y m d : ℕ) → IsIn c y m d → IsReal c (date y m d)
real c y m d is = is_real _ _ (omega (arith, ints, is.0)) is.1 is.2 is.3 is.4

julian : (y m d n : ℕ) → IsIn Julian y m d → 1 ≤ n
    → julian_count (date y m d) + 1 ≡ n + julian_count (first_date Julian)
    → date_of Julian n ≡ date y m d
julian y m d n is low count =
    date_of_count Julian julian_count julian_is (date y m d) n (real Julian y m d is) low count

gregorian : (y m d n : ℕ) → IsIn Gregorian y m d → 1 ≤ n
    → gregorian_count (date y m d) + 1 ≡ n + gregorian_count (first_date Gregorian)
    → date_of Gregorian n ≡ date y m d
gregorian y m d n is low count =
    date_of_count Gregorian gregorian_count gregorian_is (date y m d) n (real Gregorian y m d is)
    low count

-- the bull Inter gravissimas: the day after Thursday 4 October 1582 is Friday 15 October
last_julian_day : (date_of Julian 577735 ≡ date 1582 10 4) × (weekday 577735 ≡ 4)
last_julian_day = (
  julian 1582 10 4 577735
      (omega arith, omega arith, omega arith, omega arith, omega arith) (omega arith) (omega arith),
  refl,
)

first_gregorian_day : (date_of Gregorian 577736 ≡ date 1582 10 15) × (weekday 577736 ≡ 5)
first_gregorian_day =
    let count = day_count-late (pos 1582) 11582 10 15 refl (omega arith) (omega arith)
    (omega arith) in (
      gregorian 1582 10 15 577736
          (omega arith, omega arith, omega arith, omega arith, omega arith) (omega arith)
          (omega (arith, gregorian_first, count)),
      refl,
    )

-- the epoch J2000.0 of astronomers: noon of Saturday 1 January 2000 is 2451545
epoch_2000 : (date_of Gregorian 730120 ≡ date 2000 1 1)
    × (julian_day 730120 ≡ 2451545) × (weekday 730120 ≡ 6)
epoch_2000 =
    let count = day_count-early (pos 2000) 11999 1 1 refl (omega arith) (omega arith)
    (omega arith) in (
      gregorian 2000 1 1 730120
          (omega arith, omega arith, omega arith, omega arith, omega arith) (omega arith)
          (omega (arith, gregorian_first, count)),
      refl,
      refl,
    )

-- the line ends with 31 December of its last year
last_day : date_of Gregorian newest_rules.high ≡ date newest_rules.last_year 12 31
last_day =
    gregorian newest_rules.last_year 12 31 newest_rules.high
    (omega arith, omega arith, omega arith, omega arith, omega arith) (omega arith)
    (omega (arith, gregorian_first, gregorian_last))
