-- The days of a date that is one day are the same by its label and by the search of the line.
use Rattle.std.proofs.Common.{◌≡◌, ◌∙◌, ◌+◌, ◌==◌, ◌&&◌, ◌||◌, ℕ, zero, suc, Bool, true, false}
use Rattle.std.proofs.Common.{if◌then◌else◌, [], ◌++◌, filter, pos, refl, sym, ap, subst}
use Rattle.std.proofs.lemmas.Bool.Decides.{Decides-eqb}
use Rattle.std.proofs.lemmas.List.Sorted.{IsPermutation-refl}
use Rattle.std.proofs.Math.Bool.{and-true}
use Rattle.std.specs.List.{range_with_len}
use Rattle.std.specs.List.Sorted.{IsPermutation}
use Rattle.std.specs.Ordering.{int_eq}
use Rattle.osn_days.specs.Line.{line}
use Rattle.osn_days.specs.Rules.{Rules}
use Rattle.osn_days.proofs.RangeFacts.{filter_same, filter_both}
use Rattle.osn_territory.specs.Dating.{dated_on}
use Rattle.osn_territory.specs.Style.{is_before_25_march}
use Rattle.osn_territory.specs.Territory.{TerritoryModel, reading}
use Rattle.osn_written.specs.declared.written_date.WrittenDate.{WrittenDate}
use Rattle.osn_written.specs.Meaning.{counted_double, days_meant, double_meant, is_of_later_year}
use Rattle.osn_written.specs.Meaning.{label_of, not_counted_double}
use Rattle.osn_written.specs.OneDay.{AreSameDays, simple_of}
use Rattle.osn_written.specs.Runs.{all_double, all_labelled, all_meant, has_month_and_day}
use Rattle.osn_written.specs.Runs.{is_labelled, is_meant_double, year_of}
use Rattle.osn_written.proofs.OrderFacts.{in_parts, later_alone, two_years}
use Rattle.osn_written.proofs.RunFacts.{meant_double, meant_single}

-- ---- tests of a day, as truth values

-- of the days with the label, those of the double year are those of the later year
of_label : (a j x t : Bool) → ((a && t) && ((j && (a || x)) && t)) ≡ ((a && t) && j)
of_label false j x t = refl
of_label true j x false = refl
of_label true true x true = refl
of_label true false x true = refl

later_tests : (before j m : Bool) → m ≡ before → ((j && m) && true) ≡ (j && before)
later_tests before true m same = and-true m ∙ same
later_tests before false m same = refl

-- of those with the later label too, from 1 January to 24 March
of_later : (before a j b m t : Bool) → (a ≡ true → b ≡ true → ⊥) → (t ≡ true → m ≡ before)
    → ((b && t) && ((j && (a || (b && m))) && t)) ≡ ((b && t) && (j && before))
of_later before a j false m t apart same = refl
of_later before a j true m false apart same = refl
of_later before true j true m true apart same = absurd (apart refl refl)
of_later before false j true m true apart same = later_tests before j m (same refl)

-- the day of the month decides whether it is before 25 March
parts_of : (x y : Bool) → (x && y) ≡ true → (x ≡ true) × (y ≡ true)
parts_of true true h = (refl, refl)
parts_of true false h = absurd (cc h)
parts_of false y h = absurd (cc h)

same_before : (month day m d : ℕ) → ((m == month) && (d == day)) ≡ true
    → is_before_25_march m d ≡ is_before_25_march month day
same_before month day m d h =
    let parts = parts_of (m == month) (d == day) h in
    ap (λ n. is_before_25_march n d) ((Decides-eqb m month).0 parts.0)
    ∙ ap (is_before_25_march month) ((Decides-eqb d day).0 parts.1)

-- ---- a filter that takes nothing

none_taken : (a n : ℕ) → filter (λ d. false) (range_with_len a n) ≡ []
none_taken a zero = refl
none_taken a (suc n) = none_taken (a + 1) n

and_none : (x y : Bool) → (x && (y && false)) ≡ false
and_none true true = refl
and_none true false = refl
and_none false y = refl

-- days that are taken if something holds, and none if it doesn't
taken_where : (f j : ℕ → Bool) (a n : ℕ) (before : Bool)
    → filter (λ d. f d && (j d && before)) (range_with_len a n)
    ≡ (if before then filter j (filter f (range_with_len a n)) else [])
taken_where f j a n true =
    filter_same (λ d. f d && (j d && true)) (λ d. f d && j d) a n
    (λ d low high. ap (λ x. f d && x) (and-true (j d)))
    ∙ sym (filter_both j f (range_with_len a n))
taken_where f j a n false =
    filter_same (λ d. f d && (j d && false)) (λ d. false) a n
    (λ d low high. and_none (f d) (j d))
    ∙ none_taken a n

-- ---- a date of a double year

double_days : (p : Rules) (t : TerritoryModel) (w : WrittenDate)
    → IsPermutation (all_double p t (simple_of w)) (double_meant p t w)
unfolding all_double reading line
double_days p t w =
    let date = simple_of w in
    let n = w.year in
    let all = range_with_len 1 p.high in
    let f : ℕ → Bool = λ d. is_labelled date (pos n) (dated_on p t d) in
    let g : ℕ → Bool = λ d. is_labelled date (pos (n + 1)) (dated_on p t d) in
    let h : ℕ → Bool = λ d. is_meant_double date (dated_on p t d) in
    let j : ℕ → Bool = λ d. is_of_later_year w (dated_on p t d) in
    let before = is_before_25_march w.month w.day in
    let parts : IsPermutation (filter h all) (filter h (filter f all) ++ filter h (filter g all)) =
    in_parts f g h 1 p.high (λ d.
    later_alone (int_eq (dated_on p t d).january_year (pos (n + 1)))
    (int_eq (dated_on p t d).label.year (pos n))
    (int_eq (dated_on p t d).label.year (pos (n + 1)))
    (is_before_25_march (dated_on p t d).label.month (dated_on p t d).label.day)
    (has_month_and_day date (dated_on p t d).label)
    (two_years (dated_on p t d).label.year n)) in
    let first : filter h (filter f all) ≡ counted_double p t w =
    filter_both h f all
    ∙ filter_same (λ d. f d && h d) (λ d. f d && j d) 1 p.high (λ d low high.
    of_label (int_eq (dated_on p t d).label.year (pos n))
    (int_eq (dated_on p t d).january_year (pos (n + 1)))
    (int_eq (dated_on p t d).label.year (pos (n + 1))
    && is_before_25_march (dated_on p t d).label.month (dated_on p t d).label.day)
    (has_month_and_day date (dated_on p t d).label))
    ∙ sym (filter_both j f all) in
    let second : filter h (filter g all) ≡ not_counted_double p t w =
    filter_both h g all
    ∙ filter_same (λ d. g d && h d) (λ d. g d && (j d && before)) 1 p.high (λ d low high.
    of_later before (int_eq (dated_on p t d).label.year (pos n))
    (int_eq (dated_on p t d).january_year (pos (n + 1)))
    (int_eq (dated_on p t d).label.year (pos (n + 1)))
    (is_before_25_march (dated_on p t d).label.month (dated_on p t d).label.day)
    (has_month_and_day date (dated_on p t d).label)
    (two_years (dated_on p t d).label.year n)
    (same_before w.month w.day (dated_on p t d).label.month (dated_on p t d).label.day))
    ∙ taken_where g j 1 p.high before in
    subst (λ ys. IsPermutation (filter h all) (ys ++ not_counted_double p t w)) first
    (subst (λ zs. IsPermutation (filter h all) (filter h (filter f all) ++ zs)) second parts)

-- ---- either

-- the days of a label
label_days : (p : Rules) (t : TerritoryModel) (w : WrittenDate)
    → IsPermutation (all_labelled p t (simple_of w) (pos w.year)) (reading p t (label_of w))
unfolding all_labelled reading line
label_days p t w = IsPermutation-refl (reading p t (label_of w))

meant_days : (p : Rules) (t : TerritoryModel) (w : WrittenDate) (is_double : Bool)
    → w.is_double ≡ is_double
    → IsPermutation (all_meant p t (simple_of w)) (if is_double then double_meant p t w
    else reading p t (label_of w))
meant_days p t w true is =
    subst (λ ds. IsPermutation ds (double_meant p t w))
    (meant_double p t (simple_of w) (year_of (simple_of w)) refl is) (double_days p t w)
meant_days p t w false is =
    subst (λ ds. IsPermutation ds (reading p t (label_of w)))
    (meant_single p t (simple_of w) (year_of (simple_of w)) (pos w.year) refl refl is)
    (label_days p t w)

pub same_days : (p : Rules) (t : TerritoryModel) → AreSameDays p t
unfolding AreSameDays days_meant
same_days p t w = meant_days p t w w.is_double refl
