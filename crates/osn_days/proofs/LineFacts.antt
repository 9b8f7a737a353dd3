-- What the crates above use of the line: what the dates of its days are, and what it means that a
-- date is that of a day.
use Rattle.std.proofs.Common.{◌≡◌, ℕ, [], ◌∷◌, ◌+◌, ◌-◌, ◌≤◌, sym, ◌∙◌, arith, refl, inl, inr, pos}
use Rattle.std.proofs.Common.{◌≤ℤ◌}
use Rattle.std.proofs.lemmas.Bool.{cases_order}
use Rattle.std.proofs.lemmas.Bool.{false_from_ne_true}
use Rattle.osn_days.specs.declared.date.Date.{Date}
use Rattle.osn_days.specs.declared.calendar.Calendar.{Calendar}
use Rattle.osn_days.specs.declared.calendar.Calendar.TheVariants.{Julian, Gregorian, Swedish}
use Rattle.osn_days.specs.Rules.{Rules, newest_rules}
use Rattle.osn_days.specs.Line.{line, IsDay, IsYearNumber}
use Rattle.osn_days.specs.Chain.{date_of, same_date, days_with_date}
use Rattle.osn_days.proofs.ChainFacts.{julian_by_months, gregorian_by_months, chain_small}
use Rattle.osn_days.proofs.ChainFacts.{chain_apart, same_date_is, same_date_self}
use Rattle.osn_days.proofs.ChainFacts.{days_one, days_none}
use Rattle.osn_days.proofs.CountFacts.{chain_real}
use Rattle.osn_days.proofs.GregorianFacts.{gregorian_place, gregorian_last_year}
use Rattle.osn_days.proofs.JulianFacts.{julian_place, julian_last_year}
use Rattle.osn_days.proofs.SwedishFacts.{swedish_cases}
use Rattle.osn_days.proofs.RangeFacts.{filter_is}

-- the date of a day of the line: a year that has figures, a month, and a day of at most 31
pub record IsLineDate (d : Date) : Type 0 where
  pub year_low : pos 1 ≤ℤ d.year
  pub year_high : d.year ≤ℤ pos newest_rules.last_year
  pub month_low : 1 ≤ d.month
  pub month_high : d.month ≤ 12
  pub day_low : 1 ≤ d.day
  pub day_high : d.day ≤ 31

last_julian_year : (n : ℕ) → IsDay newest_rules n
    → (date_of Julian n).year ≤ℤ pos newest_rules.last_year
last_julian_year n on =
    julian_last_year (date_of Julian n) (chain_real Julian (n - 1) julian_by_months)
    (omega (arith, on, julian_place (date_of Julian n) n on.0 refl))

last_year : (c : Calendar) (n : ℕ) → IsDay newest_rules n
    → (date_of c n).year ≤ℤ pos newest_rules.last_year
last_year Julian n on = last_julian_year n on
last_year Gregorian n on =
    gregorian_last_year (date_of Gregorian n) (chain_real Gregorian (n - 1) gregorian_by_months)
    (omega (arith, on, gregorian_place (date_of Gregorian n) n on.0 refl))
last_year Swedish n on =
    swedish_cases (λ d. d.year ≤ℤ pos newest_rules.last_year) n
    (λ _. last_julian_year n on)
    (λ low high. last_julian_year (n + 1) (omega arith, omega arith))
    (λ _. search arith)
    (λ _. last_julian_year n on)

pub date_of_line : (c : Calendar) (n : ℕ) → IsDay newest_rules n → IsLineDate (date_of c n)
date_of_line c n on =
    let s = chain_small c (n - 1) in
    record {
      year_low = s.year_low;
      year_high = last_year c n on;
      month_low = s.month_low;
      month_high = s.month_high;
      day_low = s.day_low;
      day_high = s.day_high;
    }

pub year_of_line : (c : Calendar) (n : ℕ) → IsDay newest_rules n
    → IsYearNumber newest_rules (date_of c n).year
year_of_line c n on = let found = date_of_line c n on in (found.year_low, found.year_high)

-- two days of one date are one day
pub date_of_injective : (c : Calendar) (m n : ℕ) → 1 ≤ m → 1 ≤ n → date_of c m ≡ date_of c n → m ≡ n
date_of_injective c m n low_m low_n e =
    elim (cases_order m n) [
      | inl same ↦ same
      | inr (inl lt) ↦ absurd (chain_apart c (m - 1) (n - 1) (inl (omega arith)) e)
      | inr (inr gt) ↦ absurd (chain_apart c (m - 1) (n - 1) (inr (omega arith)) e)
    ]

-- a day is the only one with its date
pub one_day : (p : Rules) (c : Calendar) (d : Date) (n : ℕ) → IsDay p n → date_of c n ≡ d
    → n ∷ [] ≡ days_with_date p c d
one_day p c d n on is = sym (days_one p c d n on (rw is (same_date_self d)))

-- a date that no day has
pub no_day : (p : Rules) (c : Calendar) (d : Date) → ((n : ℕ) → IsDay p n → date_of c n ≡ d → ⊥)
    → [] ≡ days_with_date p c d
no_day p c d none =
    sym (days_none p c d (λ n on. false_from_ne_true (same_date (date_of c n) d)
    (λ is. none n on (same_date_is (date_of c n) d is))))

-- the day with a date has that date
pub day_with_date : (p : Rules) (c : Calendar) (d : Date) (n : ℕ) → n ∷ [] ≡ days_with_date p c d
    → IsDay p n × (date_of c n ≡ d)
unfolding days_with_date line
day_with_date p c d n e =
    let found = filter_is (λ m. same_date (date_of c m) d) 1 p.high n (sym e) in
    ((omega arith, omega arith), same_date_is (date_of c n) d found.2)

-- the date of a day is that of this day alone
pub day_of_date : (p : Rules) (c : Calendar) (n : ℕ) → IsDay p n
    → n ∷ [] ≡ days_with_date p c (date_of c n)
day_of_date p c n on = sym (days_one p c (date_of c n) n on (same_date_self (date_of c n)))

-- a date with no day is that of none
pub no_day_with_date : (p : Rules) (c : Calendar) (d : Date) (n : ℕ) → [] ≡ days_with_date p c d
    → IsDay p n → date_of c n ≡ d → ⊥
no_day_with_date p c d n none on is =
    let one = day_of_date p c n on in
    let clash : [] ≡ n ∷ [] = none ∙ sym (rw is at one) in
    cc
