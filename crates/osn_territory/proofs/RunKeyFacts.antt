-- The numbers of days by which runs are found never fall, and what they say of a month.
use Rattle.std.proofs.Common.{◌≡◌, ℕ, ◌+◌, ◌-◌, ◌*◌, ◌<◌, ◌≤◌, ◌⊎◌, inl, inr, Bool, true, false}
use Rattle.std.proofs.Common.{◌==◌, ◌&&◌, if◌then◌else◌, refl, ap, ◌∙◌}
use Rattle.std.proofs.Common.{arith, ℤ, pos, ◌+ℤ◌, ◌-ℤ◌, ◌*ℤ◌, ◌<ℤ◌, ◌≤ℤ◌, unsigned_abs}
use Rattle.std.proofs.Common.{Option, None, Some, subst, filter, ◌++◌, eqb-true}
use Rattle.std.proofs.lemmas.Bool.{cases_order}
use Rattle.std.proofs.lemmas.Bool.{false_from_ne_true}
use Rattle.std.proofs.lemmas.Bool.Decides.{nat_tests, Decides-int_eq, Decides-eqb}
use Rattle.std.proofs.lemmas.Int.{ints, by_lt_z}
use Rattle.std.specs.List.{range_with_len}
use Rattle.std.specs.Ordering.{int_eq}
use Rattle.osn_computus.specs.declared.rule.Rule.TheVariants as rules
use Rattle.osn_computus.specs.Easter.{easter_of}
use Rattle.osn_days.specs.declared.date.Date.{Date}
use Rattle.osn_days.specs.declared.calendar.Calendar.{Calendar}
use Rattle.osn_days.specs.Rules.{Rules}
use Rattle.osn_days.specs.Chain.{date_of}
use Rattle.osn_days.proofs.ChainFacts.{IsSmall, key, chain_small, chain_rises}
use Rattle.osn_days.proofs.RangeFacts.{filter_all, filter_run, filter_two, filter_part}
use Rattle.osn_territory.specs.declared.style.Style.{Style}
use Rattle.osn_territory.specs.declared.style.Style.TheVariants.{January, Annunciation, Nativity}
use Rattle.osn_territory.specs.declared.style.Style.TheVariants.{September, Pisan, Easter}
use Rattle.osn_territory.specs.declared.regime.Regime.{Regime}
use Rattle.osn_territory.specs.declared.period.Period.{Period}
use Rattle.osn_territory.specs.declared.runs.YearOrMonth.{YearOrMonth}
use Rattle.osn_territory.specs.declared.runs.Key.{Key}
use Rattle.osn_territory.specs.declared.runs.Key.TheVariants.{Year, Month}
use Rattle.osn_territory.specs.Style.{is_before_25_march, is_from_25_december, is_from_september}
use Rattle.osn_territory.specs.Style.{is_before, is_before_easter, year_by, style_year}
use Rattle.osn_territory.specs.RunKeys.{month_number, number_on, january_year}
use Rattle.osn_territory.specs.RunKeys.{is_month, is_sought, sought_in}

-- an earlier date is in an earlier year, or in the same one and not later in it
abbrev IsInOrder : Date → Date → Type 0
IsInOrder a b =
    (a.year <ℤ b.year) ⊎ ((a.year ≡ b.year) × (a.month * 32 + a.day ≤ b.month * 32 + b.day))

key_order : (m n : ℕ) (a b : Date) → IsSmall m a → IsSmall n b → key a <ℤ key b → IsInOrder a b
key_order m n a b small_a small_b less =
    by_lt_z a.year b.year (λ before. inl before)
    (λ not_before. inr (omega (arith, ints), omega (arith, ints)))

-- years of dates in order, of which a style subtracts one or adds one if a test passes
abbrev InOrder : ℤ → ℤ → Type 0 → Type 0
InOrder y z Same = (y <ℤ z) ⊎ ((y ≡ z) × Same)

less_rises : (a b : Bool) (y z : ℤ) → InOrder y z (b ≡ true → a ≡ true) →
    (if a then y -ℤ pos 1 else y) ≤ℤ (if b then z -ℤ pos 1 else z)
less_rises true true y z (inl less) = omega (arith, ints, less)
less_rises true false y z (inl less) = omega (arith, ints, less)
less_rises false true y z (inl less) = omega (arith, ints, less)
less_rises false false y z (inl less) = omega (arith, ints, less)
less_rises true true y z (inr same) = omega (arith, ints, same.0)
less_rises true false y z (inr same) = omega (arith, ints, same.0)
less_rises false true y z (inr same) = let clash : false ≡ true = same.1 refl in absurd cc
less_rises false false y z (inr same) = omega (arith, ints, same.0)

more_rises : (a b : Bool) (y z : ℤ) → InOrder y z (a ≡ true → b ≡ true) →
    (if a then y +ℤ pos 1 else y) ≤ℤ (if b then z +ℤ pos 1 else z)
more_rises true true y z (inl less) = omega (arith, ints, less)
more_rises true false y z (inl less) = omega (arith, ints, less)
more_rises false true y z (inl less) = omega (arith, ints, less)
more_rises false false y z (inl less) = omega (arith, ints, less)
more_rises true true y z (inr same) = omega (arith, ints, same.0)
more_rises true false y z (inr same) = let clash : false ≡ true = same.1 refl in absurd cc
more_rises false true y z (inr same) = omega (arith, ints, same.0)
more_rises false false y z (inr same) = omega (arith, ints, same.0)

unless_rises : (a b : Bool) (y z : ℤ) → InOrder y z (b ≡ true → a ≡ true) →
    (if a then y else y +ℤ pos 1) ≤ℤ (if b then z else z +ℤ pos 1)
unless_rises true true y z (inl less) = omega (arith, ints, less)
unless_rises true false y z (inl less) = omega (arith, ints, less)
unless_rises false true y z (inl less) = omega (arith, ints, less)
unless_rises false false y z (inl less) = omega (arith, ints, less)
unless_rises true true y z (inr same) = omega (arith, ints, same.0)
unless_rises true false y z (inr same) = omega (arith, ints, same.0)
unless_rises false true y z (inr same) = let clash : false ≡ true = same.1 refl in absurd cc
unless_rises false false y z (inr same) = omega (arith, ints, same.0)

march_falls : (m n d e : ℕ) → m * 32 + d ≤ n * 32 + e → 1 ≤ d → d ≤ 31 → e ≤ 31 →
    is_before_25_march n e ≡ true → is_before_25_march m d ≡ true
march_falls m n d e order low high_d high_e before = grind (arith, nat_tests)

december_rises : (m n d e : ℕ) → m * 32 + d ≤ n * 32 + e → 1 ≤ d → d ≤ 31 → e ≤ 31 → n ≤ 12 →
    is_from_25_december m d ≡ true → is_from_25_december n e ≡ true
december_rises m n d e order low high_d high_e last from = grind (arith, nat_tests)

september_rises : (m n d e : ℕ) → m * 32 + d ≤ n * 32 + e → 1 ≤ d → d ≤ 31 → e ≤ 31 →
    is_from_september m ≡ true → is_from_september n ≡ true
september_rises m n d e order low high_d high_e from = grind (arith, nat_tests)

easter_falls : (d e : ℕ) (easter : Option ℕ) → d ≤ e → is_before e easter ≡ true →
    is_before d easter ≡ true
easter_falls d e None less before = before
easter_falls d e (Some f) less before = grind (arith, nat_tests)

in_order : {Same : Type 0} (a b : Date) → IsInOrder a b →
    (a.month * 32 + a.day ≤ b.month * 32 + b.day → Same) → InOrder a.year b.year Same
in_order a b (inl less) same = inl less
in_order a b (inr at) same = inr (at.0, same at.1)

-- the style's year of the later date is not below that of the earlier one
style_rises : (m n : ℕ) (s : Style) (a b : Date) (ea eb : Bool) → IsSmall m a → IsSmall n b →
    IsInOrder a b → (a.year ≡ b.year → eb ≡ true → ea ≡ true) →
    year_by s a ea ≤ℤ year_by s b eb
style_rises m n January a b ea eb small_a small_b order easter =
    elim order [
      | inl less ↦ omega (arith, ints, less)
      | inr same ↦ omega (arith, ints, same.0)
    ]
style_rises m n Annunciation a b ea eb small_a small_b order easter =
    less_rises (is_before_25_march a.month a.day) (is_before_25_march b.month b.day) a.year b.year
    (in_order a b order (λ at. march_falls a.month b.month a.day b.day at
    small_a.day_low small_a.day_high small_b.day_high))
style_rises m n Nativity a b ea eb small_a small_b order easter =
    more_rises (is_from_25_december a.month a.day) (is_from_25_december b.month b.day) a.year b.year
    (in_order a b order (λ at. december_rises a.month b.month a.day b.day at
    small_a.day_low small_a.day_high small_b.day_high small_b.month_high))
style_rises m n September a b ea eb small_a small_b order easter =
    more_rises (is_from_september a.month) (is_from_september b.month) a.year b.year
    (in_order a b order (λ at. september_rises a.month b.month a.day b.day at
    small_a.day_low small_a.day_high small_b.day_high))
style_rises m n Pisan a b ea eb small_a small_b order easter =
    unless_rises (is_before_25_march a.month a.day) (is_before_25_march b.month b.day) a.year b.year
    (in_order a b order (λ at. march_falls a.month b.month a.day b.day at
    small_a.day_low small_a.day_high small_b.day_high))
style_rises m n Easter a b ea eb small_a small_b order easter =
    less_rises ea eb a.year b.year
    (elim order [ inl less ↦ inl less | inr same ↦ inr (same.0, easter same.0) ])

month_rises : (m n : ℕ) (a b : Date) → IsSmall m a → IsSmall n b → IsInOrder a b →
    month_number a ≤ℤ month_number b
month_rises m n a b small_a small_b (inl less) =
    omega (arith, ints, less, small_a.month_high, small_b.month_low)
month_rises m n a b small_a small_b (inr same) =
    omega (arith, ints, same.0, same.1, small_a.day_low, small_b.day_high)

day_order : (c : Calendar) (d e : ℕ) → 1 ≤ d → d < e → IsInOrder (date_of c d) (date_of c e)
day_order c d e low less =
    key_order (d - 1) (e - 1) (date_of c d) (date_of c e) (chain_small c (d - 1))
    (chain_small c (e - 1)) (chain_rises c (d - 1) (e - 1) (omega arith))

number_grows : (p : Rules) (k : Key) (d e : ℕ) → 1 ≤ d → d < e →
    number_on p k d ≤ℤ number_on p k e
number_grows p (Year r) d e low less =
    let a = date_of r.calendar d in
    let b = date_of r.calendar e in
    style_rises (d - 1) (e - 1) r.style a b (is_before_easter p a.year d)
    (is_before_easter p b.year e) (chain_small r.calendar (d - 1)) (chain_small r.calendar (e - 1))
    (day_order r.calendar d e low less)
    (λ same before. easter_falls d e (easter_of p rules.Julian (unsigned_abs a.year)) (omega arith)
    (ap (λ (y : ℤ). is_before_easter p y e) same ∙ before))
number_grows p (Month c) d e low less =
    month_rises (d - 1) (e - 1) (date_of c d) (date_of c e) (chain_small c (d - 1))
    (chain_small c (e - 1)) (day_order c d e low less)

-- the number of the later of two days is not below that of the earlier one
pub number_rises : (p : Rules) (k : Key) (d e : ℕ) → 1 ≤ d → d ≤ e →
    number_on p k d ≤ℤ number_on p k e
number_rises p k d e low until =
    elim (cases_order d e) [
      | inl same ↦ let numbers = ap (number_on p k) same in omega (arith, ints, numbers)
      | inr (inl less) ↦ number_grows p k d e low less
      | inr (inr more) ↦ absurd (omega (arith, until, more))
    ]

-- If the number of a day is below a bound, that of each day before it is too. If it reaches the
-- bound, that of each later day does too.
pub below_until : (p : Rules) (k : Key) (bound : ℤ) (e d : ℕ) → 1 ≤ d → d ≤ e →
    number_on p k e <ℤ bound → number_on p k d <ℤ bound
below_until p k bound e d low until below =
    let rises = number_rises p k d e low until in omega (arith, ints, rises, below)

pub reached_from : (p : Rules) (k : Key) (bound : ℤ) (e d : ℕ) → 1 ≤ e → e ≤ d →
    bound ≤ℤ number_on p k e → bound ≤ℤ number_on p k d
reached_from p k bound e d low from reached =
    let rises = number_rises p k e d low from in omega (arith, ints, rises, reached)

-- the years counted from 1 January in which the days of a style's year lie are two

one_less_near : (b : Bool) (y : ℤ) → ((if b then y -ℤ pos 1 else y) ≤ℤ y)
    × (y ≤ℤ ((if b then y -ℤ pos 1 else y) +ℤ pos 1))
one_less_near true y = (omega (arith, ints), omega (arith, ints))
one_less_near false y = (omega (arith, ints), omega (arith, ints))

one_more_near : (b : Bool) (y : ℤ) →
    (((if b then y +ℤ pos 1 else y) -ℤ pos 1) ≤ℤ y)
    × (y ≤ℤ ((if b then y +ℤ pos 1 else y) -ℤ pos 1 +ℤ pos 1))
one_more_near true y = (omega (arith, ints), omega (arith, ints))
one_more_near false y = (omega (arith, ints), omega (arith, ints))

unless_near : (b : Bool) (y : ℤ) →
    (((if b then y else y +ℤ pos 1) -ℤ pos 1) ≤ℤ y)
    × (y ≤ℤ ((if b then y else y +ℤ pos 1) -ℤ pos 1 +ℤ pos 1))
unless_near true y = (omega (arith, ints), omega (arith, ints))
unless_near false y = (omega (arith, ints), omega (arith, ints))

near : (s : Style) (a : Date) (easter : Bool) →
    (january_year s (year_by s a easter) ≤ℤ a.year)
    × (a.year ≤ℤ (january_year s (year_by s a easter) +ℤ pos 1))
near January a easter = (omega (arith, ints), omega (arith, ints))
near Annunciation a easter = one_less_near (is_before_25_march a.month a.day) a.year
near Nativity a easter = one_more_near (is_from_25_december a.month a.day) a.year
near September a easter = one_more_near (is_from_september a.month) a.year
near Pisan a easter = unless_near (is_before_25_march a.month a.day) a.year
near Easter a easter = one_less_near easter a.year

pub january_near : (p : Rules) (r : Regime) (y : ℤ) (d : ℕ) → style_year p r d ≡ y →
    (january_year r.style y ≤ℤ (date_of r.calendar d).year)
    × ((date_of r.calendar d).year ≤ℤ (january_year r.style y +ℤ pos 1))
january_near p r y d is =
    let a = date_of r.calendar d in
    subst (λ (x : ℤ). (january_year r.style x ≤ℤ a.year)
    × (a.year ≤ℤ (january_year r.style x +ℤ pos 1))) is
    (near r.style a (is_before_easter p a.year d))

other_year : (y z : ℤ) (rest : Bool) → (y ≡ z → ⊥) → (int_eq y z && rest) ≡ false
other_year y z rest apart =
    ap (λ b. b && rest) (false_from_ne_true (int_eq y z) (λ is. apart ((Decides-int_eq y z).0 is)))

this_year : (y z : ℤ) (rest : Bool) → y ≡ z → (int_eq y z && rest) ≡ rest
this_year y z rest same = ap (λ b. b && rest) ((Decides-int_eq y z).1 same)

other_month : (a : Date) (m : ℕ) → (a.month ≡ m → ⊥) → (a.month == m) ≡ false
other_month a m apart = false_from_ne_true (a.month == m) (λ is. apart (eqb-true a.month m is))

this_month : (c : Calendar) (d : ℕ) (y k : ℤ) (m : ℕ) → m < 256 → k ≡ y *ℤ pos 256 +ℤ pos m →
    month_number (date_of c d) ≡ k → ((date_of c d).month == m) ≡ true
this_month c d y k m few number is =
    let small = chain_small c (d - 1) in
    (Decides-eqb (date_of c d).month m).1 (omega (arith, ints, few, number, is, small.month_high))

-- the days of a period in a year, and those that are sought among them
pub year_part : (p : Rules) (s : YearOrMonth) (q : Period) (b c : ℕ) → q.first ≤ b → b ≤ c →
    c ≤ q.last + 1 → ((d : ℕ) → q.first ≤ d → d < b → style_year p q.regime d <ℤ s.year) →
    ((d : ℕ) → b ≤ d → d < c → style_year p q.regime d ≡ s.year) →
    ((d : ℕ) → c ≤ d → d < q.last + 1 → s.year <ℤ style_year p q.regime d) →
    sought_in p s q ≡ filter (λ d. is_month s.month (date_of q.regime.calendar d).month)
    (range_with_len b (c - b))
year_part p s q b c first next last before same after =
    let year : ℕ → ℤ = λ d. style_year p q.regime d in
    let is_there : ℕ → Bool = λ d. is_month s.month (date_of q.regime.calendar d).month in
    filter_part (is_sought p s q.regime) is_there q.first b c (q.last + 1) first next last
    (λ d low high. other_year (year d) s.year (is_there d)
    (λ is. omega (arith, ints, is, before d low high)))
    (λ d low high. this_year (year d) s.year (is_there d) (same d low high))
    (λ d low high. other_year (year d) s.year (is_there d)
    (λ is. omega (arith, ints, is, after d low high)))

-- if no month is asked for, they are all
pub all_months : (m : Option ℕ) (c : Calendar) (a n : ℕ) → m ≡ None →
    filter (λ d. is_month m (date_of c d).month) (range_with_len a n) ≡ range_with_len a n
all_months m c a n none =
    filter_all (λ d. is_month m (date_of c d).month) a n (λ d low high.
    ap (λ (o : Option ℕ). is_month o (date_of c d).month) none)

-- and of a month those of its number in the one year counted from 1 January and in the other
pub month_runs : (c : Calendar) (y k n : ℤ) (m first a b e f end : ℕ) →
    k ≡ y *ℤ pos 256 +ℤ pos m → n ≡ k +ℤ pos 256 → m < 256 →
    first ≤ a → a ≤ b → b ≤ e → e ≤ f → f ≤ end →
    ((d : ℕ) → first ≤ d → d < end → (y ≤ℤ (date_of c d).year)
    × ((date_of c d).year ≤ℤ (y +ℤ pos 1))) →
    ((d : ℕ) → first ≤ d → d < a → month_number (date_of c d) <ℤ k) →
    ((d : ℕ) → a ≤ d → d < b → month_number (date_of c d) ≡ k) →
    ((d : ℕ) → b ≤ d → d < end → k <ℤ month_number (date_of c d)) →
    ((d : ℕ) → b ≤ d → d < e → month_number (date_of c d) <ℤ n) →
    ((d : ℕ) → e ≤ d → d < f → month_number (date_of c d) ≡ n) →
    ((d : ℕ) → f ≤ d → d < end → n <ℤ month_number (date_of c d)) →
    filter (λ d. (date_of c d).month == m) (range_with_len first (end - first))
    ≡ range_with_len a (b - a) ++ range_with_len e (f - e)
month_runs c y k n m first a b e f end number next few low_a low_b low_e low_f high years before_a
    in_a after_a before_e in_e after_e =
    let on : ℕ → Bool = λ d. (date_of c d).month == m in
    filter_two on first end b (range_with_len a (b - a)) (range_with_len e (f - e)) (omega arith)
    (omega arith)
    (filter_run on first a b b low_a low_b (omega arith)
    (λ d from until. other_month (date_of c d) m (λ is.
    let year = years d from (omega arith) in
    omega (arith, ints, is, number, before_a d from until, year.0)))
    (λ d from until. this_month c d y k m few number (in_a d from until))
    (λ d from until. absurd (omega (arith, from, until))))
    (filter_run on b e f end low_e low_f high
    (λ d from until. other_month (date_of c d) m (λ is.
    let year = years d (omega arith) (omega arith) in
    omega (arith, ints, is, number, next, before_e d from until, after_a d from (omega arith))))
    (λ d from until. this_month c d (y +ℤ pos 1) n m few (omega (arith, ints, number, next))
    (in_e d from until))
    (λ d from until. other_month (date_of c d) m (λ is.
    let year = years d (omega arith) until in
    omega (arith, ints, is, number, next, after_e d from until, year.1))))
