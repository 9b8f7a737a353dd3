-- The earlier one of two days has the earlier date, in each calendar.
use Rattle.std.proofs.Common.{◌≡◌, ℕ, ◌-◌, ◌≤◌, ◌<ℤ◌, ◌≤ℤ◌, ◌≡◌, inl, inr, Bool, true, false}
use Rattle.std.proofs.Common.{◌&&◌, ◌||◌, ◌==◌, nat_lt, int_lt, sym, ap, ◌∙◌, arith, eqb-true}
use Rattle.std.proofs.lemmas.Bool.{and_parts, and_cases, or_cases, or_parts, cases_lt}
use Rattle.std.proofs.lemmas.Bool.{false_from_ne_true}
use Rattle.std.proofs.lemmas.Bool.{cases_order, lt-ltb, both_ways, true_from_ne_false}
use Rattle.std.proofs.lemmas.Bool.Decides.{Decides-eqb, Decides-int_eq}
use Rattle.std.proofs.lemmas.Int.{ints, by_lt_z}
use Rattle.std.specs.Ordering.{int_eq}
use Rattle.std.proofs.lemmas.Bool.{ltb-true, ltb-false}
use Rattle.osn_days.specs.declared.calendar.Calendar.{Calendar}
use Rattle.osn_days.specs.declared.date.Date.{Date}
use Rattle.osn_days.specs.Chain.{date_of}
use Rattle.osn_days.proofs.ChainFacts.{IsSmall, key, chain_small, chain_rises}
use Rattle.osn_territory.specs.LabelOrder.{is_earlier}

earlier_key : (m n : ℕ) (a b : Date) → IsSmall m a → IsSmall n b → is_earlier a b ≡ true →
    key a <ℤ key b
earlier_key m n a b small_a small_b is =
    let later : Bool = nat_lt a.month b.month || ((a.month == b.month) && nat_lt a.day b.day) in
    elim (or_cases (int_lt a.year b.year) (int_eq a.year b.year && later) is) [
      | inl year ↦ omega (arith, ints, year, small_a.month_high, small_a.day_high)
      | inr rest ↦
          let parts = and_parts (int_eq a.year b.year) later rest in
          let year = (Decides-int_eq a.year b.year).0 parts.0 in
          elim (or_cases (nat_lt a.month b.month) ((a.month == b.month) && nat_lt a.day b.day)
          parts.1) [
            | inl month ↦
                let less = ltb-true a.month b.month month in
                omega (arith, ints, year, less, small_a.day_high)
            | inr day ↦
                let both = and_parts (a.month == b.month) (nat_lt a.day b.day) day in
                let month = eqb-true a.month b.month both.0 in
                let less = ltb-true a.day b.day both.1 in
                omega (arith, ints, year, month, less)
          ]
    ]

not_earlier_key : (m n : ℕ) (a b : Date) → IsSmall m a → IsSmall n b → is_earlier a b ≡ false →
    key b ≤ℤ key a
not_earlier_key m n a b small_a small_b is =
    let later : Bool = nat_lt a.month b.month || ((a.month == b.month) && nat_lt a.day b.day) in
    let parts = or_parts (int_lt a.year b.year) (int_eq a.year b.year && later) is in
    let year = parts.0 in
    elim (and_cases (int_eq a.year b.year) later parts.1) [
      | inl other ↦ by_lt_z b.year a.year
          (λ less. omega (arith, ints, less, small_b.month_high, small_b.day_high))
          (λ more. absurd (both_ways (int_eq a.year b.year) other
          ((Decides-int_eq a.year b.year).1 (omega (arith, ints, more, year)))))
      | inr not_later ↦
          let months = or_parts (nat_lt a.month b.month)
          ((a.month == b.month) && nat_lt a.day b.day) not_later in
          let month = ltb-false a.month b.month months.0 in
          elim (and_cases (a.month == b.month) (nat_lt a.day b.day) months.1) [
            | inl other ↦ elim (cases_order a.month b.month) [
              | inl same ↦ absurd (both_ways (a.month == b.month) other
                  ((Decides-eqb a.month b.month).1 same))
              | inr (inl less) ↦ absurd (omega (arith, less, month))
              | inr (inr more) ↦ omega (arith, ints)
            ]
            | inr not_less ↦
                let day = ltb-false a.day b.day not_less in
                omega (arith, ints, year, month, day, small_b.month_high, small_b.day_high)
          ]
    ]

pub earlier_day : (c : Calendar) (d e : ℕ) → 1 ≤ d → 1 ≤ e →
    nat_lt d e ≡ is_earlier (date_of c d) (date_of c e)
earlier_day c d e low_d low_e =
    let a = date_of c d in
    let b = date_of c e in
    let small_a = chain_small c (d - 1) in
    let small_b = chain_small c (e - 1) in
    elim (cases_lt d e) [
      | inl less ↦
          let rises = chain_rises c (d - 1) (e - 1) (omega arith) in
          lt-ltb d e less ∙ sym (true_from_ne_false (is_earlier a b) (λ missed.
          let back = not_earlier_key (d - 1) (e - 1) a b small_a small_b missed in
          omega (arith, ints, rises, back)))
      | inr from ↦
          false_from_ne_true (nat_lt d e) (λ less. omega (arith, from, ltb-true d e less))
          ∙ sym (false_from_ne_true (is_earlier a b) (λ found.
          let on = earlier_key (d - 1) (e - 1) a b small_a small_b found in
          elim (cases_lt e d) [
            | inl more ↦
                let rises = chain_rises c (e - 1) (d - 1) (omega arith) in
                omega (arith, ints, rises, on)
            | inr until ↦
                let same : d ≡ e = omega (arith, from, until) in
                let keys = ap (λ n. key (date_of c n)) same in
                omega (arith, ints, keys, on)
          ]))
    ]
