-- The days of a label by calendar: those of a regime are the days of its calendar that its style
-- counts in the label's year.
use Rattle.std.proofs.Common.{◌≡◌, ℕ, ◌≤◌, inl, inr, Bool, true, false, ◌&&◌, List}
use Rattle.std.proofs.Common.{[], ◌∷◌, ◌++◌, Option, Some, None, refl, sym, ap, ◌∙◌}
use Rattle.std.proofs.Common.{arith, ℤ, pos, ◌+ℤ◌, ◌-ℤ◌, filter}
use Rattle.std.proofs.lemmas.Bool.{and_parts, and_from}
use Rattle.std.proofs.lemmas.Bool.{false_from_ne_true}
use Rattle.std.proofs.lemmas.Int.{ints}
use Rattle.std.specs.Prelude.{IsSome, IsSomeAnd, IfSome}
use Rattle.std.specs.List.{list_any, range_with_len}
use Rattle.std.specs.Option.{option_to_list}
use Rattle.osn_days.specs.declared.date.Date.{Date}
use Rattle.osn_days.specs.declared.calendar.Calendar.{Calendar}
use Rattle.osn_days.specs.declared.calendar.Calendar.TheVariants.{Julian, Gregorian, Swedish}
use Rattle.osn_days.specs.Rules.{Rules, newest_rules}
use Rattle.osn_days.specs.Line.{line, IsDay, IsYearNumber}
use Rattle.osn_days.specs.Chain.{date_of, days_with_date}
use Rattle.osn_days.proofs.LineFacts.{year_of_line, no_day, no_day_with_date, day_with_date}
use Rattle.osn_days.proofs.LineFacts.{date_of_injective}
use Rattle.osn_days.proofs.RangeFacts.{filter_none, any_from}
use Rattle.osn_territory.specs.declared.regime.Regime.{Regime}
use Rattle.osn_territory.specs.declared.label.Label.{Label}
use Rattle.osn_territory.specs.declared.candidates.Candidates.{Candidates}
use Rattle.osn_territory.specs.declared.candidate_table.CandidateTable.{CandidateTable}
use Rattle.osn_territory.specs.Style.{is_from_easter}
use Rattle.osn_territory.specs.Label.{local_label, days_with_label}
use Rattle.osn_territory.specs.Territory.{is_empty}
use Rattle.osn_territory.specs.LabelSearch.{has_label, days_in_year, date_in, years_of, are_none_in}
use Rattle.osn_territory.specs.LabelSearch.{year_in}
use Rattle.osn_territory.specs.LabelSearch.{AreInYears, AreAllWithin, IsTable, AreBetween}
use Rattle.osn_territory.specs.LabelSearch.{AllOrNone}
use Rattle.osn_territory.proofs.LabelFacts.{in_year, in_year_date, in_three_years, later_year}
use Rattle.osn_territory.proofs.LabelFacts.{same_label_decides, three_years_found, some_year_counts}
use Rattle.osn_territory.proofs.LabelFacts.{year_of_day}
use Rattle.osn_territory.proofs.MemberFacts.{no_days_not}

-- no date is in a year off the line
pub no_date_off_the_years : (c : Calendar) (l : Label) (y z : ℤ) → z ≡ y →
    (IsYearNumber newest_rules z → false ≡ true) → [] ≡ days_with_date newest_rules c (date_in y l)
no_date_off_the_years c l y z same off =
    no_day newest_rules c (date_in y l) (λ n on is.
    let there = year_of_line c n on in
    let at_z : (date_of c n).year ≡ z = ap (λ (d : Date). d.year) is ∙ sym same in
    let none : false ≡ true = off (rw at_z at there.0, rw at_z at there.1) in
    absurd cc)

-- if no day has the date, no day of the year has the label
pub none_counted : (p : Rules) (r : Regime) (l : Label) (y : ℤ) (found : Option ℕ) →
    found ≡ None → option_to_list found ≡ days_with_date p r.calendar (date_in y l) →
    [] ≡ days_in_year p r l y
unfolding days_in_year line
none_counted p r l y found is days =
    let none : [] ≡ days_with_date p r.calendar (date_in y l) = ap option_to_list (sym is) ∙ days in
    sym (filter_none (in_year p r l y) 1 p.high (λ d low high.
    false_from_ne_true (in_year p r l y d) (λ has.
    no_day_with_date p r.calendar (date_in y l) d none (low, omega (arith, high))
    (in_year_date p r l y d low has).0)))

-- the three days of a calendar, between two others
pub record IsFull (p : Rules) (c : Calendar) (l : Label) (first last : ℕ) : Type 0 where
  pub a : ℕ
  pub b : ℕ
  pub e : ℕ
  pub before : a ∷ [] ≡ days_with_date p c (date_in (l.year -ℤ pos 1) l)
  pub same : b ∷ [] ≡ days_with_date p c (date_in l.year l)
  pub after : e ∷ [] ≡ days_with_date p c (date_in (l.year +ℤ pos 1) l)
  pub low : first ≤ a
  pub high : e ≤ last

full_of : (p : Rules) (c : Calendar) (l : Label) (first last : ℕ) (x y z : Option ℕ) →
    option_to_list x ≡ days_with_date p c (date_in (l.year -ℤ pos 1) l) →
    option_to_list y ≡ days_with_date p c (date_in l.year l) →
    option_to_list z ≡ days_with_date p c (date_in (l.year +ℤ pos 1) l) →
    IsSomeAnd x (λ d. first ≤ d) → IsSome y → IsSomeAnd z (λ d. d ≤ last) → IsFull p c l first last
full_of p c l first last (Some x) (Some y) (Some z) before same after low some high =
    record {
      a = x;
      b = y;
      e = z;
      before = before;
      same = same;
      after = after;
      low = low;
      high = high;
    }
full_of p c l first last (Some x) (Some y) None before same after low some high = absurd high
full_of p c l first last (Some x) None z before same after low some high =
    let none : false ≡ true = some in absurd cc
full_of p c l first last None y z before same after low some high = absurd low

full : (p : Rules) (c : Calendar) (l : Label) (first last : ℕ) (f : Candidates) →
    AreInYears p c l f → AreAllWithin first last f → IsFull p c l first last
full p c l first last f days within =
    full_of p c l first last f.before f.same f.after days.0 days.1 days.2 within.0 within.1 within.2

-- the year of a date that is given
year_is : (c : Calendar) (l : Label) (y : ℤ) (d : ℕ) → date_of c d ≡ date_in y l →
    (date_of c d).year ≡ y
year_is c l y d is = ap (λ (e : Date). e.year) is

-- a day with the label is from the first to the last
between_full : (p : Rules) (r : Regime) (l : Label) (first last d : ℕ) →
    IsFull p r.calendar l first last → IsDay p d → has_label p l r d ≡ true →
    (first ≤ d) × (d ≤ last)
between_full p r l first last d three on has =
    let c = r.calendar in
    let x = l.year -ℤ pos 1 in
    let z = l.year +ℤ pos 1 in
    let date_a = day_with_date p c (date_in x l) three.a three.before in
    let date_e = day_with_date p c (date_in z l) three.e three.after in
    let year_a = year_is c l x three.a date_a.1 in
    let year_e = year_is c l z three.e date_e.1 in
    let low = three.low in
    let high = three.high in
    elim (in_three_years p r l d has) [
      | inl before ↦
          let dated = (in_year_date p r l x d on.0 (and_from _ _ before has)).0 in
          let here : d ≡ three.a = date_of_injective c d three.a on.0 date_a.0.0
          (dated ∙ sym date_a.1) in
          let year_d = year_is c l x d dated in
          let less = later_year c d three.e on.0 date_e.0.0 (omega (arith, ints, year_d, year_e)) in
          (omega (arith, here, low), omega (arith, less, high))
      | inr (inl same) ↦
          let year_d = year_is c l l.year d (in_year_date p r l l.year d on.0
          (and_from _ _ same has)).0 in
          let more = later_year c three.a d date_a.0.0 on.0 (omega (arith, ints, year_d, year_a)) in
          let less = later_year c d three.e on.0 date_e.0.0 (omega (arith, ints, year_d, year_e)) in
          (omega (arith, more, low), omega (arith, less, high))
      | inr (inr after) ↦
          let dated = (in_year_date p r l z d on.0 (and_from _ _ after has)).0 in
          let here : d ≡ three.e = date_of_injective c d three.e on.0 date_e.0.0
          (dated ∙ sym date_e.1) in
          let year_d = year_is c l z d dated in
          let more = later_year c three.a d date_a.0.0 on.0 (omega (arith, ints, year_d, year_a)) in
          (omega (arith, more, low), omega (arith, here, high))
    ]

not_empty : (q : ℕ → Bool) (ds : List ℕ) → list_any q ds ≡ true → is_empty ds ≡ false
not_empty q [] some = let none : false ≡ true = some in absurd cc
not_empty q (d ∷ ds) some = refl

-- a day with the date of a year that is counted as the label's has the label
some_day : (p : Rules) (r : Regime) (l : Label) (y : ℤ) (d : ℕ) →
    d ∷ [] ≡ days_with_date p r.calendar (date_in y l) →
    year_in p r (date_in y l) ≡ l.year → is_empty (days_with_label p r l) ≡ false
unfolding days_with_label line
some_day p r l y d day counts =
    let dated = day_with_date p r.calendar (date_in y l) d day in
    let has : has_label p l r d ≡ true = (same_label_decides (local_label p r d) l).1 (
      year_of_day p r d dated.0.0 ∙ ap (year_in p r) dated.1 ∙ counts,
      (ap (λ (e : Date). e.month) dated.1, ap (λ (e : Date). e.day) dated.1),
    ) in
    not_empty (λ e. true) (filter (has_label p l r) (range_with_len 1 p.high))
    (any_from (λ e. true) (has_label p l r) 1 p.high d dated.0.0 (omega
    (arith, dated.0.1)) has refl)

-- if a calendar has all three days, each regime of it has the label whose year begins on a fixed
-- date
some_full : (p : Rules) (r : Regime) (l : Label) (first last : ℕ) →
    is_from_easter r.style ≡ false → IsFull p r.calendar l first last →
    is_empty (days_with_label p r l) ≡ false
some_full p r l first last fixed three =
    elim (some_year_counts p r l fixed) [
      | inl before ↦ some_day p r l (l.year -ℤ pos 1) three.a three.before before
      | inr (inl same) ↦ some_day p r l l.year three.b three.same same
      | inr (inr after) ↦ some_day p r l (l.year +ℤ pos 1) three.e three.after after
    ]

-- a calendar has all three days of the label if the table has them
full_in : (p : Rules) (c : Calendar) (l : Label) (first last : ℕ) (o : Option Candidates) →
    IfSome o (AreInYears p c l) → IfSome o (AreAllWithin first last) → IsSome o →
    IsFull p c l first last
full_in p c l first last None days within some = let none : false ≡ true = some in absurd cc
full_in p c l first last (Some f) days within some = full p c l first last f days within

-- if each calendar of the table has all three days
pub between_ends : (p : Rules) (l : Label) (t : CandidateTable) (first last : ℕ) → IsTable p l t →
    ((c : Calendar) → IfSome (years_of t c) (AreAllWithin first last)) →
    AreBetween p l (Some t) first last
between_ends p l t first last table within r d known on has =
    between_full p r l first last d
    (full_in p r.calendar l first last (years_of t r.calendar) (table r.calendar)
    (within r.calendar) known)
    on has

pub even_ends : (p : Rules) (l : Label) (t : CandidateTable) (first last : ℕ) → IsTable p l t →
    ((c : Calendar) → IfSome (years_of t c) (AreAllWithin first last)) →
    AllOrNone p l (Some t) first last
even_ends p l t first last table within = inl (λ r known fixed. some_full p r l first last fixed
    (full_in p r.calendar l first last (years_of t r.calendar) (table r.calendar)
    (within r.calendar) known))

none_of : (a b e : Option ℕ) →
    is_empty (option_to_list a ++ (option_to_list b ++ option_to_list e)) ≡ true →
    (a ≡ None) × (b ≡ None) × (e ≡ None)
none_of None None None empty = (refl, refl, refl)
none_of None None (Some d) empty = let none : false ≡ true = empty in absurd cc
none_of None (Some d) e empty = let none : false ≡ true = empty in absurd cc
none_of (Some d) b e empty = let none : false ≡ true = empty in absurd cc

none_in : (t : CandidateTable) (c : Calendar) → (are_none_in t.julian
    && (are_none_in t.gregorian && are_none_in t.swedish)) ≡ true →
    are_none_in (years_of t c) ≡ true
none_in t Julian all = (and_parts (are_none_in t.julian) _ all).0
none_in t Gregorian all = (and_parts (are_none_in t.gregorian) (are_none_in t.swedish)
    (and_parts (are_none_in t.julian) _ all).1).0
none_in t Swedish all = (and_parts (are_none_in t.gregorian) (are_none_in t.swedish)
    (and_parts (are_none_in t.julian) _ all).1).1

no_days : (p : Rules) (r : Regime) (l : Label) (o : Option Candidates) → IsSome o →
    IfSome o (AreInYears p r.calendar l) → are_none_in o ≡ true → [] ≡ days_with_label p r l
no_days p r l None some days none = let nothing : false ≡ true = some in absurd cc
no_days p r l (Some f) some days none =
    let each = none_of f.before f.same f.after none in
    three_years_found p r l [] [] [] (l.year -ℤ pos 1) l.year (l.year +ℤ pos 1)
    (none_counted p r l (l.year -ℤ pos 1) f.before each.0 days.0)
    (none_counted p r l l.year f.same each.1 days.1)
    (none_counted p r l (l.year +ℤ pos 1) f.after each.2 days.2)
    refl refl refl

-- if no calendar of the table has a day

pub even_none : (p : Rules) (l : Label) (t : CandidateTable) (first last : ℕ) → IsTable p l t →
    (are_none_in t.julian && (are_none_in t.gregorian && are_none_in t.swedish)) ≡ true →
    AllOrNone p l (Some t) first last
even_none p l t first last table none = inr (inl (λ r known. ap is_empty (sym (no_days p r l
    (years_of t r.calendar) known (table r.calendar) (none_in t r.calendar none)))))

pub between_none : (p : Rules) (l : Label) (t : CandidateTable) (first last : ℕ) → IsTable p l t →
    (are_none_in t.julian && (are_none_in t.gregorian && are_none_in t.swedish)) ≡ true →
    AreBetween p l (Some t) first last
unfolding days_with_label line
between_none p l t first last table none r d known on has =
    absurd (no_days_not (has_label p l r) p.high d (ap is_empty (sym (no_days p r l
    (years_of t r.calendar) known (table r.calendar) (none_in t r.calendar none)))) on.0 on.1 has)
