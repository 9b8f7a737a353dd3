-- What month and day a calendar has in any year, it has in 1712.
use Rattle.std.proofs.Common.{◌≡◌, ℕ, ℤ, ◌+◌, ◌-◌, ◌≤◌, inl, inr, Bool, true}
use Rattle.std.proofs.Common.{false, ◌==◌, ◌&&◌, ◌||◌, if◌then◌else◌, List, [], ◌∷◌, map, refl}
use Rattle.std.proofs.Common.{sym, ap, ◌∙◌, arith, pos, Option, Some, None, is_some, eqb-true}
use Rattle.std.proofs.lemmas.Bool.{and_parts, and_from, cases_lt}
use Rattle.std.proofs.lemmas.Bool.{false_from_ne_true}
use Rattle.std.proofs.lemmas.Bool.Decides.{Decides-eqb}
use Rattle.std.proofs.lemmas.Int.{ints}
use Rattle.std.specs.List.{range_with_len, list_any}
use Rattle.std.specs.Option.{option_to_list}
use Rattle.osn_days.specs.declared.date.Date.{Date}
use Rattle.osn_days.specs.declared.calendar.Calendar.{Calendar}
use Rattle.osn_days.specs.declared.calendar.Calendar.TheVariants.{Julian, Gregorian, Swedish}
use Rattle.osn_days.specs.Rules.{newest_rules}
use Rattle.osn_days.specs.Line.{line, IsDay}
use Rattle.osn_days.specs.Chain.{is_leap, month_length, date_of, days_with_date}
use Rattle.osn_days.proofs.ChainFacts.{julian_by_months, gregorian_by_months}
use Rattle.osn_days.proofs.ChainFacts.{month_length_bounds}
use Rattle.osn_days.proofs.CountFacts.{IsReal, is_real, chain_real, on_chain, date_of_count}
use Rattle.osn_days.proofs.GregorianFacts.{gregorian_count, gregorian_is, gregorian_first}
use Rattle.osn_days.proofs.GregorianFacts.{gregorian_last}
use Rattle.osn_days.proofs.JulianFacts.{julian_place, julian_count-early, julian_count-late}
use Rattle.osn_days.proofs.LineFacts.{day_with_date, no_day_with_date}
use Rattle.osn_days.proofs.RangeFacts.{some_in_row, none_in_row}
use Rattle.osn_days.proofs.SwedishFacts.{swedish_cases, swedish_ahead, swedish_extra}
use Rattle.osn_days.proofs.SwedishFacts.{swedish_after}
use Rattle.osn_territory.specs.declared.regime.Regime.{Regime}
use Rattle.osn_territory.specs.declared.period.Period.{Period}
use Rattle.osn_territory.specs.Territory.{TerritoryModel}
use Rattle.osn_territory.specs.PeriodList.{start_of}
use Rattle.osn_territory.specs.MonthDay.{has_month_day}
use Rattle.osn_territory.proofs.LabelFacts.{later_year}

abbrev in_1712 : ℕ → ℕ → Date
in_1712 m d = record { year = pos 1712; month = m; day = d }

-- a leap year has every month at its longest
at_most : (february leap : Bool) (other : ℕ) →
    (if february then (if leap then 29 else 28) else other) ≤ (if february then 29 else other)
at_most true true other = omega arith
at_most true false other = omega arith
at_most false leap other = omega arith

longest : (c : Calendar) (y : ℤ) (m : ℕ) → is_leap c (pos 1712) ≡ true →
    month_length c y m ≤ month_length c (pos 1712) m
longest c y m leap = rw leap (at_most (m == 2) (is_leap c y) _)

real_1712 : (c : Calendar) (e : Date) → is_leap c (pos 1712) ≡ true → IsReal c e →
    IsReal c (in_1712 e.month e.day)
real_1712 c e leap s =
    let bound = longest c e.year e.month leap in
    is_real _ _ (search arith) s.month_low s.month_high s.day_low
    (omega (arith, s.day_high, bound))

-- if the Julian calendar has the date of a year, it has the month and day in 1712
julian_day : (e : Date) → IsReal Julian e →
    (n : ℕ) × (624000 ≤ n) × (n ≤ 630000) × (date_of Julian n ≡ in_1712 e.month e.day)
julian_day e s =
    let d = in_1712 e.month e.day in
    let real = real_1712 Julian e refl s in
    let found = on_chain Julian d julian_by_months real
    (omega (arith, ints, s.month_low, s.day_low)) in
    let n = found.0 + 1 in
    let back : n - 1 ≡ found.0 = omega arith in
    let is : date_of Julian n ≡ d = rw back found.1 in
    let place = julian_place d n (omega arith) is in
    let short = (month_length_bounds Julian e.year e.month).0 in
    let days : (624000 ≤ n) × (n ≤ 630000) =
    elim (cases_lt 2 e.month) [
      | inl late ↦
          let count = julian_count-late d late in (
            omega (arith, place, count, s.month_high, s.day_high, short),
            omega (arith, place, count, s.month_high, s.day_high, short),
          )
      | inr early ↦
          let count = julian_count-early d early in (
            omega (arith, place, count, s.month_low, s.day_high, short),
            omega (arith, place, count, s.month_low, s.day_high, short),
          )
    ] in
    (n, days.0, days.1, is)

-- the last date of the line
abbrev december_31 : Date
december_31 = record { year = pos 9999; month = 12; day = 31 }

gregorian_end : date_of Gregorian newest_rules.high ≡ december_31
gregorian_end =
    date_of_count Gregorian gregorian_count gregorian_is december_31 newest_rules.high
    (is_real _ _ (search arith) (omega arith) (omega arith) (omega arith) (omega arith))
    (omega arith) (omega (arith, gregorian_last, gregorian_first))

-- the Gregorian calendar has each real month and day in 1712
gregorian_day : (e : Date) → IsReal Gregorian e →
    (n : ℕ) × IsDay newest_rules n × (date_of Gregorian n ≡ in_1712 e.month e.day)
gregorian_day e s =
    let d = in_1712 e.month e.day in
    let real = real_1712 Gregorian e refl s in
    let found = on_chain Gregorian d gregorian_by_months real
    (omega (arith, ints, s.month_low, s.day_low)) in
    let n = found.0 + 1 in
    let back : n - 1 ≡ found.0 = omega arith in
    let is : date_of Gregorian n ≡ d = rw back found.1 in
    let year = ap (λ (x : Date). x.year) is in
    let end = ap (λ (x : Date). x.year) gregorian_end in
    let before = later_year Gregorian n newest_rules.high (omega arith) (omega arith)
    (omega (arith, ints, year, end)) in
    (n, (omega arith, omega (arith, before)), is)

-- the Swedish calendar has the Julian dates of 1712, a day earlier before the 30 February
abbrev HasIn1712 : Calendar → Date → Type 0
HasIn1712 c e = (n : ℕ) × IsDay newest_rules n × (date_of c n ≡ in_1712 e.month e.day)

swedish_from_julian : (e : Date) → IsReal Julian e → HasIn1712 Swedish e
swedish_from_julian e s =
    let found = julian_day e s in
    let n = found.0 in
    elim (cases_lt n 625001) [
      | inl before ↦
          let next : n - 1 + 1 ≡ n = omega (arith, found.1) in (
            n - 1,
            (omega (arith, found.1), omega (arith, found.2)),
            swedish_ahead (n - 1) (omega (arith, found.1)) (omega (arith, before))
                ∙ ap (date_of Julian) next
                ∙ found.3,
          )
      | inr after ↦ (
        n,
        (omega (arith, found.1), omega (arith, found.2)),
        swedish_after n after ∙ found.3,
      )
    ]

day_in_1712 : (c : Calendar) (n : ℕ) → IsDay newest_rules n → HasIn1712 c (date_of c n)
day_in_1712 Julian n on =
    let found = julian_day (date_of Julian n) (chain_real Julian (n - 1) julian_by_months) in
    (found.0, (omega (arith, found.1), omega (arith, found.2)), found.3)
day_in_1712 Gregorian n on =
    gregorian_day (date_of Gregorian n) (chain_real Gregorian (n - 1) gregorian_by_months)
day_in_1712 Swedish n on =
    swedish_cases (HasIn1712 Swedish) n
    (λ high. swedish_from_julian (date_of Julian n) (chain_real Julian (n - 1) julian_by_months))
    (λ low high. swedish_from_julian (date_of Julian (n + 1))
    (chain_real Julian (n + 1 - 1) julian_by_months))
    (λ here. (625000, (omega arith, omega arith), swedish_extra))
    (λ low. swedish_from_julian (date_of Julian n) (chain_real Julian (n - 1) julian_by_months))

abbrev has : Calendar → ℕ → ℕ → ℕ → Bool
has c m d n = ((date_of c n).month == m) && ((date_of c n).day == d)

has_on : (c : Calendar) (m d n high : ℕ) → 1 ≤ n → n ≤ high → (date_of c n).month ≡ m →
    (date_of c n).day ≡ d → list_any (has c m d) (range_with_len 1 high) ≡ true
has_on c m d n high low until month day =
    some_in_row (has c m d) 1 high n low (omega arith)
    (and_from ((date_of c n).month == m) ((date_of c n).day == d)
    ((Decides-eqb (date_of c n).month m).1 month) ((Decides-eqb (date_of c n).day d).1 day))

-- the calendar has the month and day if it has them in 1712
pub found_in_1712 : (c : Calendar) (m d : ℕ) (found : Option ℕ) →
    option_to_list found ≡ days_with_date newest_rules c (in_1712 m d) →
    is_some found ≡ has_month_day newest_rules c m d
unfolding has_month_day line
found_in_1712 c m d (Some n) is =
    let day = day_with_date newest_rules c (in_1712 m d) n is in
    sym (has_on c m d n newest_rules.high day.0.0 day.0.1 (ap (λ (x : Date). x.month) day.1)
    (ap (λ (x : Date). x.day) day.1))
found_in_1712 c m d None is =
    sym (none_in_row (has c m d) 1 newest_rules.high (λ n low high.
    false_from_ne_true (has c m d n) (λ passes.
    let parts = and_parts ((date_of c n).month == m) ((date_of c n).day == d) passes in
    let month = eqb-true (date_of c n).month m parts.0 in
    let day = eqb-true (date_of c n).day d parts.1 in
    let there = day_in_1712 c n (low, omega arith) in
    no_day_with_date newest_rules c (in_1712 m d) there.0 is there.1
    (there.2 ∙ ap (λ x. in_1712 x (date_of c n).day) month ∙ ap (in_1712 m) day))))

-- a test of the regimes of starts is one of the periods
some_start : (test : Regime → Bool) (ps : List Period) →
    list_any (λ q. test q.regime) ps ≡ list_any (λ s. test s.1) (map start_of ps)
some_start test [] = refl
some_start test (q ∷ ps) = ap (λ b. test q.regime || b) (some_start test ps)

pub some_in_territory : (test : Regime → Bool) (es : List (ℕ × ℕ)) (qs ps : List Period)
    (t : TerritoryModel) → qs ≡ ps → record { starts = map start_of ps; exceptions = es } ≡ t →
    list_any (λ q. test q.regime) qs ≡ list_any (λ s. test s.1) t.starts
some_in_territory test es qs ps t same is =
    ap (list_any (λ q. test q.regime)) same
    ∙ some_start test ps
    ∙ ap (λ (u : TerritoryModel). list_any (λ s. test s.1) u.starts) is
