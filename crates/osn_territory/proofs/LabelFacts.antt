-- The days with a label are those of three years in a row, and those of a year are the days of one
-- date.
use Rattle.std.specs.List.{range_with_len}
use Rattle.std.proofs.Common.{◌≡◌, ℕ, filter, ◌-◌, ◌<◌, ◌≤◌, ◌⊎◌, inl, inr, List, ◌++◌, Bool}
use Rattle.std.proofs.Common.{true, false, ◌&&◌, ◌||◌, if◌then◌else◌, refl, sym, ap, ◌∙◌}
use Rattle.std.proofs.Common.{arith, ℤ, pos, ◌+ℤ◌, ◌-ℤ◌, ◌<ℤ◌, ◌≤ℤ◌, ◌+◌, unsigned_abs}
use Rattle.std.proofs.Common.{Option, Some, []}
use Rattle.std.proofs.Common.{None, IfSome}
use Rattle.std.proofs.lemmas.Bool.{and_parts, and_from, or_cases, cases_order}
use Rattle.std.proofs.lemmas.Bool.{false_from_ne_true}
use Rattle.std.proofs.lemmas.Bool.Decides.{Decides-and, Decides-eqb, Decides-int_eq}
use Rattle.std.proofs.lemmas.Bool.Decides.{same_from_decides}
use Rattle.std.proofs.lemmas.Int.{ints}
use Rattle.std.specs.Bool.{Decides}
use Rattle.std.specs.Ordering.{int_eq}
use Rattle.osn_days.specs.declared.date.Date.{Date}
use Rattle.osn_days.specs.declared.calendar.Calendar.{Calendar}
use Rattle.osn_computus.specs.declared.rule.Rule.TheVariants as rules
use Rattle.osn_computus.specs.Easter.{easter_of}
use Rattle.osn_days.specs.Rules.{Rules, newest_rules}
use Rattle.osn_days.specs.Line.{line, IsYearNumber}
use Rattle.osn_days.specs.Chain.{date_of, same_date, days_with_date}
use Rattle.osn_days.proofs.ChainFacts.{date_is, same_date_is, same_date_self, chain_rises}
use Rattle.osn_days.proofs.ChainFacts.{chain_small}
use Rattle.osn_days.proofs.LineFacts.{date_of_line}
use Rattle.osn_days.proofs.RangeFacts.{filter_none, filter_or, filter_same}
use Rattle.osn_territory.specs.declared.style.Style.{Style}
use Rattle.osn_territory.specs.declared.style.Style.TheVariants.{January, Annunciation, Nativity}
use Rattle.osn_territory.specs.declared.style.Style.TheVariants.{September, Pisan, Easter}
use Rattle.osn_territory.specs.declared.regime.Regime.{Regime}
use Rattle.osn_territory.specs.declared.label.Label.{Label}
use Rattle.osn_territory.specs.Style.{is_before_25_march, is_from_25_december, is_from_september}
use Rattle.osn_territory.specs.Style.{is_before, is_before_easter, year_by, style_year}
use Rattle.osn_territory.specs.Style.{is_from_easter}
use Rattle.osn_territory.specs.Label.{local_label, same_label, days_with_label}
use Rattle.osn_territory.specs.LabelSearch.{has_label, days_in_year, date_in, year_in}
use Rattle.osn_territory.specs.LabelOrder.{is_dated_before}
use Rattle.osn_territory.proofs.EarlierFacts.{earlier_day}
use Rattle.osn_territory.proofs.EasterFacts.{easter_on_line}

-- the parts of two labels
abbrev pub AreParts : Label → Label → Type 0
AreParts a b = (a.year ≡ b.year) × ((a.month ≡ b.month) × (a.day ≡ b.day))

pub same_label_decides : (a b : Label) → Decides (same_label a b) (AreParts a b)
same_label_decides a b =
    Decides-and _ _ (Decides-int_eq a.year b.year)
    (Decides-and _ _ (Decides-eqb a.month b.month) (Decides-eqb a.day b.day))

-- a date's year, and the same as the style counts it, are one or next to each other
abbrev IsNear : ℤ → ℤ → Type 0
IsNear counted year = (year ≡ counted -ℤ pos 1) ⊎ ((year ≡ counted) ⊎ (year ≡ counted +ℤ pos 1))

one_less : (b : Bool) (year : ℤ) → IsNear (if b then year -ℤ pos 1 else year) year
one_less true year = inr (inr (omega (arith, ints)))
one_less false year = inr (inl refl)

one_more : (b : Bool) (year : ℤ) → IsNear (if b then year +ℤ pos 1 else year) year
one_more true year = inl (omega (arith, ints))
one_more false year = inr (inl refl)

one_more_unless : (b : Bool) (year : ℤ) → IsNear (if b then year else year +ℤ pos 1) year
one_more_unless true year = inr (inl refl)
one_more_unless false year = inl (omega (arith, ints))

style_is_near : (s : Style) (d : Date) (before : Bool) → IsNear (year_by s d before) d.year
style_is_near January d before = inr (inl refl)
style_is_near Annunciation d before = one_less (is_before_25_march d.month d.day) d.year
style_is_near Nativity d before = one_more (is_from_25_december d.month d.day) d.year
style_is_near September d before = one_more (is_from_september d.month) d.year
style_is_near Pisan d before = one_more_unless (is_before_25_march d.month d.day) d.year
style_is_near Easter d before = one_less before d.year

pub style_year_range : (s : Style) (d : Date) (before : Bool) (n : ℕ) → pos 1 ≤ℤ d.year →
    d.year ≤ℤ pos n → (pos 0 ≤ℤ year_by s d before) × (year_by s d before ≤ℤ pos (n + 1))
style_year_range s d before n low high =
    elim (style_is_near s d before) [
      | inl more ↦ (omega (arith, ints, more, low), omega (arith, ints, more, high))
      | inr (inl same) ↦ (omega (arith, ints, same, low), omega (arith, ints, same, high))
      | inr (inr less) ↦ (omega (arith, ints, less, low), omega (arith, ints, less, high))
    ]

-- the style's year of a day depends on the day's date alone

days_as_dates : (p : Rules) (c : Calendar) (d : ℕ) (easter : Option ℕ) → 1 ≤ d →
    IfSome easter (λ e. 1 ≤ e) → is_before d easter ≡ is_dated_before c (date_of c d) easter
days_as_dates p c d None low some = refl
days_as_dates p c d (Some e) low some = earlier_day c d e low some

pub year_of_day : (p : Rules) (r : Regime) (d : ℕ) → 1 ≤ d →
    style_year p r d ≡ year_in p r (date_of r.calendar d)
year_of_day p r d low =
    let date = date_of r.calendar d in
    ap (year_by r.style date) (days_as_dates p r.calendar d
    (easter_of p rules.Julian (unsigned_abs date.year)) low
    (easter_on_line p rules.Julian (unsigned_abs date.year)))

-- whether a style takes one off the year or adds one, it counts one of three years as the label's

one_less_counts : (s : Bool) (y : ℤ) → ((if s then y -ℤ pos 1 -ℤ pos 1 else y -ℤ pos 1) ≡ y)
    ⊎ (((if s then y -ℤ pos 1 else y) ≡ y)
    ⊎ ((if s then y +ℤ pos 1 -ℤ pos 1 else y +ℤ pos 1) ≡ y))
one_less_counts true y = inr (inr (omega (arith, ints)))
one_less_counts false y = inr (inl refl)

one_more_counts : (s : Bool) (y : ℤ) → ((if s then y -ℤ pos 1 +ℤ pos 1 else y -ℤ pos 1) ≡ y)
    ⊎ (((if s then y +ℤ pos 1 else y) ≡ y)
    ⊎ ((if s then y +ℤ pos 1 +ℤ pos 1 else y +ℤ pos 1) ≡ y))
one_more_counts true y = inl (omega (arith, ints))
one_more_counts false y = inr (inl refl)

more_unless_counts : (s : Bool) (y : ℤ) → ((if s then y -ℤ pos 1 else y -ℤ pos 1 +ℤ pos 1) ≡ y)
    ⊎ (((if s then y else y +ℤ pos 1) ≡ y)
    ⊎ ((if s then y +ℤ pos 1 else y +ℤ pos 1 +ℤ pos 1) ≡ y))
more_unless_counts true y = inr (inl refl)
more_unless_counts false y = inl (omega (arith, ints))

some_year_by : (s : Style) (l : Label) (a b c : Bool) → is_from_easter s ≡ false →
    (year_by s (date_in (l.year -ℤ pos 1) l) a ≡ l.year)
    ⊎ ((year_by s (date_in l.year l) b ≡ l.year)
    ⊎ (year_by s (date_in (l.year +ℤ pos 1) l) c ≡ l.year))
some_year_by January l a b c fixed = inr (inl refl)
some_year_by Annunciation l a b c fixed = one_less_counts (is_before_25_march l.month l.day) l.year
some_year_by Nativity l a b c fixed = one_more_counts (is_from_25_december l.month l.day) l.year
some_year_by September l a b c fixed = one_more_counts (is_from_september l.month) l.year
some_year_by Pisan l a b c fixed = more_unless_counts (is_before_25_march l.month l.day) l.year
some_year_by Easter l a b c fixed = let none : true ≡ false = fixed in absurd cc

pub some_year_counts : (p : Rules) (r : Regime) (l : Label) → is_from_easter r.style ≡ false →
    (year_in p r (date_in (l.year -ℤ pos 1) l) ≡ l.year)
    ⊎ ((year_in p r (date_in l.year l) ≡ l.year)
    ⊎ (year_in p r (date_in (l.year +ℤ pos 1) l) ≡ l.year))
some_year_counts p r l fixed = some_year_by r.style l _ _ _ fixed

-- a later year is a later day
pub later_year : (c : Calendar) (d e : ℕ) → 1 ≤ d → 1 ≤ e →
    (date_of c d).year <ℤ (date_of c e).year → d < e
later_year c d e low_d low_e later =
    elim (cases_order d e) [
      | inl same ↦ let year = ap (λ n. (date_of c n).year) same in
          absurd (omega (arith, ints, year, later))
      | inr (inl lt) ↦ lt
      | inr (inr gt) ↦
          let rises = chain_rises c (e - 1) (d - 1) (omega arith) in
          let small_d = chain_small c (d - 1) in
          let small_e = chain_small c (e - 1) in
          absurd (omega (arith, ints))
    ]

-- a day has the label if its date is in one of three years
one_of_three : (a b c h : Bool) → (h ≡ true → (a ≡ true) ⊎ ((b ≡ true) ⊎ (c ≡ true))) →
    h ≡ ((a && h) || ((b && h) || (c && h)))
one_of_three true b c true one = refl
one_of_three false true c true one = refl
one_of_three false false true true one = refl
one_of_three false false false true one =
    absurd (elim (one refl) [
      | inl e ↦ absurd cc
      | inr (inl e) ↦ absurd cc
      | inr (inr e) ↦
          absurd cc
    ])
one_of_three true true true false one = refl
one_of_three true true false false one = refl
one_of_three true false true false one = refl
one_of_three true false false false one = refl
one_of_three false true true false one = refl
one_of_three false true false false one = refl
one_of_three false false true false one = refl
one_of_three false false false false one = refl

int_eq_of : (a b : ℤ) → a ≡ b → int_eq a b ≡ true
int_eq_of a b same = (Decides-int_eq a b).1 same

pub in_three_years : (p : Rules) (r : Regime) (l : Label) (d : ℕ) → has_label p l r d ≡ true →
    (int_eq (date_of r.calendar d).year (l.year -ℤ pos 1) ≡ true)
    ⊎ ((int_eq (date_of r.calendar d).year l.year ≡ true)
    ⊎ (int_eq (date_of r.calendar d).year (l.year +ℤ pos 1) ≡ true))
in_three_years p r l d has =
    let date = date_of r.calendar d in
    let counted : style_year p r d ≡ l.year =
    ((same_label_decides (local_label p r d) l).0 has).0 in
    elim (style_is_near r.style date (is_before_easter p date.year d)) [
      | inl before ↦ inl (int_eq_of _ _ (before ∙ ap (λ y. y -ℤ pos 1) counted))
      | inr (inl same) ↦ inr (inl (int_eq_of _ _ (same ∙ counted)))
      | inr (inr after) ↦ inr (inr (int_eq_of _ _ (after ∙ ap (λ y. y +ℤ pos 1) counted)))
    ]

-- the test of a day of one year
abbrev pub in_year : Rules → Regime → Label → ℤ → ℕ → Bool
in_year p r l y d = int_eq (date_of r.calendar d).year y && has_label p l r d

pub in_year_year : (p : Rules) (r : Regime) (l : Label) (y : ℤ) (d : ℕ) →
    in_year p r l y d ≡ true → (date_of r.calendar d).year ≡ y
in_year_year p r l y d is = (Decides-int_eq (date_of r.calendar d).year y).0
    (and_parts (int_eq (date_of r.calendar d).year y) (has_label p l r d) is).0

year_before : (p : Rules) (r : Regime) (l : Label) (y z : ℤ) (d e : ℕ) → y <ℤ z → 1 ≤ d → 1 ≤ e →
    in_year p r l y d ≡ true → in_year p r l z e ≡ true → d < e
year_before p r l y z d e less low_d low_e here there =
    let year_d = in_year_year p r l y d here in
    let year_e = in_year_year p r l z e there in
    later_year r.calendar d e low_d low_e (omega (arith, ints, less, year_d, year_e))

either_year : (p : Rules) (r : Regime) (l : Label) (y z : ℤ) (e : ℕ) →
    (in_year p r l y e || in_year p r l z e) ≡ true → ((date_of r.calendar e).year ≡ y)
    ⊎ ((date_of r.calendar e).year ≡ z)
either_year p r l y z e is =
    elim (or_cases (in_year p r l y e) (in_year p r l z e) is) [
      | inl first ↦ inl (in_year_year p r l y e first)
      | inr second ↦ inr (in_year_year p r l z e second)
    ]

-- the days with a label, year by year
pub three_years : (p : Rules) (r : Regime) (l : Label) → days_in_year p r l (l.year -ℤ pos 1)
    ++ (days_in_year p r l l.year ++ days_in_year p r l (l.year +ℤ pos 1)) ≡ days_with_label p r l
unfolding days_in_year days_with_label line
three_years p r l =
    let before = in_year p r l (l.year -ℤ pos 1) in
    let same = in_year p r l l.year in
    let after = in_year p r l (l.year +ℤ pos 1) in
    let later : ℕ → Bool = λ d. same d || after d in
    sym
    (filter_or before later (has_label p l r) 1 p.high
    (λ d low high. one_of_three (int_eq (date_of r.calendar d).year (l.year -ℤ pos 1))
    (int_eq (date_of r.calendar d).year l.year)
    (int_eq (date_of r.calendar d).year (l.year +ℤ pos 1)) (has_label p l r d)
    (in_three_years p r l d))
    (λ d e low_d high_d low_e high_e here there.
    let year_d = in_year_year p r l (l.year -ℤ pos 1) d here in
    elim (either_year p r l l.year (l.year +ℤ pos 1) e there) [
      | inl year_e ↦ later_year r.calendar d e low_d low_e (omega (arith, ints, year_d, year_e))
      | inr year_e ↦ later_year r.calendar d e low_d low_e (omega (arith, ints, year_d, year_e))
    ])
    ∙ ap (λ ds. filter before (range_with_len 1 p.high) ++ ds)
    (filter_or same after later 1 p.high (λ d low high. refl)
    (λ d e low_d high_d low_e high_e here there.
    year_before p r l l.year (l.year +ℤ pos 1) d e (omega (arith, ints)) low_d low_e here there)))

pub three_years_found : (p : Rules) (r : Regime) (l : Label) (before same after : List ℕ)
    (x y z : ℤ) → before ≡ days_in_year p r l x → same ≡ days_in_year p r l y →
    after ≡ days_in_year p r l z → x ≡ l.year -ℤ pos 1 → y ≡ l.year → z ≡ l.year +ℤ pos 1 → before
    ++ (same ++ after) ≡ days_with_label p r l
three_years_found p r l before same after x y z first second third is_x is_y is_z =
    ap (λ ds. ds ++ (same ++ after)) (first ∙ ap (days_in_year p r l) is_x)
    ∙ ap (λ ds. days_in_year p r l (l.year -ℤ pos 1) ++ (ds ++ after)) (second
    ∙ ap (days_in_year p r l) is_y)
    ∙ ap (λ ds. days_in_year p r l (l.year -ℤ pos 1) ++ (days_in_year p r l l.year ++ ds)) (third
    ∙ ap (days_in_year p r l) is_z)
    ∙ three_years p r l

-- no date of the line is in a year off it
pub no_day_off_the_years : (r : Regime) (l : Label) (y z : ℤ) → z ≡ y →
    (IsYearNumber newest_rules z → false ≡ true) → [] ≡ days_in_year newest_rules r l y
unfolding days_in_year line
no_day_off_the_years r l y z same off =
    sym (filter_none (in_year newest_rules r l y) 1 newest_rules.high (λ d low high.
    false_from_ne_true
    (in_year newest_rules r l y d) (λ is.
    let found = date_of_line r.calendar d (low, omega arith) in
    let year = in_year_year newest_rules r l y d is in
    let at_z : (date_of r.calendar d).year ≡ z = year ∙ sym same in
    let none : false ≡ true = off (rw at_z at found.year_low, rw at_z at found.year_high) in
    absurd cc)))

pub in_year_date : (p : Rules) (r : Regime) (l : Label) (y : ℤ) (d : ℕ) → 1 ≤ d →
    in_year p r l y d ≡ true →
    (date_of r.calendar d ≡ date_in y l) × (year_in p r (date_of r.calendar d) ≡ l.year)
in_year_date p r l y d low is =
    let both = and_parts (int_eq (date_of r.calendar d).year y) (has_label p l r d) is in
    let parts = (same_label_decides (local_label p r d) l).0 both.1 in (
      date_is (date_of r.calendar d) (date_in y l) (in_year_year p r l y d is) parts.1.0 parts.1.1,
      sym (year_of_day p r d low) ∙ parts.0,
    )

-- if the style counts that date in another year, no day of the year has the label
pub no_day_of_other_year : (p : Rules) (r : Regime) (l : Label) (y z : ℤ) → z ≡ y →
    (year_in p r (date_in z l) ≡ l.year → ⊥) → [] ≡ days_in_year p r l y
unfolding days_in_year line
no_day_of_other_year p r l y z same other =
    sym (filter_none (in_year p r l y) 1 p.high (λ d low high.
    false_from_ne_true (in_year p r l y d) (λ is.
    let found = in_year_date p r l y d low is in
    other (ap (λ x. year_in p r (date_in x l)) same ∙ ap (year_in p r) (sym found.0)
    ∙ found.1))))

in_year_is : (p : Rules) (r : Regime) (l : Label) (y : ℤ) (d : ℕ) → 1 ≤ d →
    year_in p r (date_in y l) ≡ l.year →
    in_year p r l y d ≡ same_date (date_of r.calendar d) (date_in y l)
in_year_is p r l y d low counted =
    let date = date_of r.calendar d in
    same_from_decides {P = date ≡ date_in y l} _ _ (
      (λ is. (in_year_date p r l y d low is).0),
      (λ same. and_from (int_eq date.year y) (has_label p l r d)
          (int_eq_of _ _ (ap (λ (e : Date). e.year) same))
          ((same_label_decides (local_label p r d) l).1 (
            year_of_day p r d low ∙ ap (year_in p r) same ∙ counted,
            (ap (λ (e : Date). e.month) same, ap (λ (e : Date). e.day) same),
          ))),
    ) (
      same_date_is date (date_in y l),
      λ same. ap (λ x. same_date x (date_in y l)) same
          ∙ same_date_self (date_in y l),
    )

-- if it counts it in the label's, those are the days with the date
days_of_that_year : (p : Rules) (r : Regime) (l : Label) (y : ℤ) →
    year_in p r (date_in y l) ≡ l.year →
    days_with_date p r.calendar (date_in y l) ≡ days_in_year p r l y
unfolding days_in_year days_with_date line
days_of_that_year p r l y counted =
    sym (filter_same _ _ 1 p.high (λ d low high. in_year_is p r l y d low counted))

pub days_of_year : (p : Rules) (r : Regime) (l : Label) (y z : ℤ) → z ≡ y →
    year_in p r (date_in z l) ≡ l.year →
    days_with_date p r.calendar (date_in z l) ≡ days_in_year p r l y
days_of_year p r l y z same counted = days_of_that_year p r l z counted
    ∙ ap (days_in_year p r l) same
