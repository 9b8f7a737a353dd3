-- A date with the label of a day, and with both of its years if there are two, means that day.
use Rattle.std.proofs.Common.{◌≡◌, ◌≤◌, ◌<◌, ℕ, zero, suc, ◌+◌, ◌-◌, Bool, true, false, not, cond}
use Rattle.std.proofs.Common.{if◌then◌else◌, List, [], ◌∷◌, ◌++◌, map, filter, refl, ap}
use Rattle.std.proofs.Common.{arith, ◌∙◌, sym, subst, ◌⊎◌, inl, inr, pos, Option}
use Rattle.std.proofs.lemmas.Bool.Decides.{Decides-int_eq}
use Rattle.std.proofs.lemmas.List.Elements.{Contains-append_left, Contains-append_right}
use Rattle.std.proofs.lemmas.List.FromFn.{length-range_with_len, get_or-range_with_len}
use Rattle.std.specs.List.{Contains, range_with_len}
use Rattle.osn_days.specs.declared.weekday.Weekday.{Weekday}
use Rattle.osn_days.specs.Chain.{date_of}
use Rattle.osn_days.specs.Line.{line, IsDay}
use Rattle.osn_days.specs.Rules.{Rules, newest_rules}
use Rattle.osn_territory.specs.declared.label.Label.{Label}
use Rattle.osn_territory.specs.Dating.{dated_on}
use Rattle.osn_territory.specs.Label.{local_label, same_label}
use Rattle.osn_territory.specs.Territory.{TerritoryModel, regime_at, reading}
use Rattle.osn_territory.proofs.LabelFacts.{same_label_decides}
use Rattle.osn_written.specs.declared.written_date.WrittenDate.{WrittenDate}
use Rattle.osn_grammar.specs.DualTexts.{IsWritten, AreDualTextsWritten, AreNamedDaysWritten}
use Rattle.osn_grammar.specs.DualTexts.{Means, AreDualTextsMeant}
use Rattle.osn_written.specs.Meaning.{label_of, is_of_later_year, counted_double, double_meant}
use Rattle.osn_written.specs.Meaning.{not_counted_double, days_meant, has_weekday, meaning}
use Rattle.osn_grammar.proofs.DualLaw.{dual_texts_written, named_days_written}

-- ---- elements

later_in : {X : Type 0} (y : X) (xs : List X) (x : X) → Contains xs x → Contains (y ∷ xs) x
later_in y xs x within = (suc within.0, omega (arith, within.1), within.2)

first_or_later : {X : Type 0} (y : X) (xs : List X) (x : X) → Contains (y ∷ xs) x
    → (y ≡ x) ⊎ Contains xs x
first_or_later y xs x (zero, low, is) = inl is
first_or_later y xs x (suc k, low, is) = inr (k, omega (arith, low), is)

first_kept : {X : Type 0} (b : Bool) (y : X) (xs : List X) (x : X) → b ≡ true → y ≡ x
    → Contains (cond b (y ∷ xs) xs) x
first_kept true y xs x passes is = (0, omega arith, is)
first_kept false y xs x passes is = absurd (cc)

later_kept : {X : Type 0} (b : Bool) (y : X) (xs : List X) (x : X) → Contains xs x
    → Contains (cond b (y ∷ xs) xs) x
later_kept true y xs x within = later_in y xs x within
later_kept false y xs x within = within

in_filter : {X : Type 0} (q : X → Bool) (xs : List X) (x : X) → q x ≡ true → Contains xs x
    → Contains (filter q xs) x
in_filter q [] x passes within = absurd (omega (arith, within.1))
in_filter q (y ∷ xs) x passes within =
    elim (first_or_later y xs x within) [
      | inl is ↦ first_kept (q y) y (filter q xs) x (ap q is ∙ passes) is
      | inr rest ↦ later_kept (q y) y (filter q xs) x (in_filter q xs x passes rest)
    ]

in_map : {X Y : Type 0} (f : X → Y) (xs : List X) (x : X) → Contains xs x
    → Contains (map f xs) (f x)
in_map f [] x within = absurd (omega (arith, within.1))
in_map f (y ∷ xs) x within =
    elim (first_or_later y xs x within) [
      | inl is ↦ (0, omega arith, ap f is)
      | inr rest ↦ later_in (f y) (map f xs) (f x) (in_map f xs x rest)
    ]

-- the items that pass a test and those that don't are all items
in_either : {X : Type 0} (q : X → Bool) (xs : List X) (x : X) (b : Bool) → q x ≡ b
    → Contains xs x → Contains (filter q xs ++ filter (λ y. not (q y)) xs) x
in_either q xs x true is within =
    Contains-append_left (filter q xs) (filter (λ y. not (q y)) xs) x (in_filter q xs x is within)
in_either q xs x false is within =
    Contains-append_right (filter q xs) (filter (λ y. not (q y)) xs) x
    (in_filter (λ y. not (q y)) xs x (ap not is) within)

in_range : (a n d : ℕ) → a ≤ d → d < a + n → Contains (range_with_len a n) d
in_range a n d low high =
    let below : d - a < n = omega arith in
    let place : a + (d - a) ≡ d = omega arith in (
      d - a,
      omega (arith, length-range_with_len a n, below),
      get_or-range_with_len a n (d - a) d below ∙ place,
    )

in_line : (p : Rules) (d : ℕ) → IsDay p d → Contains (line p) d
unfolding line
in_line p d on = in_range 1 p.high d on.0 (omega (arith, on.1))

-- ---- days

read_day : (p : Rules) (t : TerritoryModel) (l : Label) (d : ℕ) → IsDay p d
    → local_label p (regime_at t d) d ≡ l → Contains (reading p t l) d
unfolding reading
read_day p t l d on is =
    in_filter (λ e. same_label (local_label p (regime_at t e) e) l) (line p) d
    ((same_label_decides (local_label p (regime_at t d) d) l).1 (
      ap (λ (k : Label). k.year) is,
      (ap (λ (k : Label). k.month) is, ap (λ (k : Label). k.day) is),
    ))
    (in_line p d on)

in_one_of : (b : Bool) (xs ys : List ℕ) (d : ℕ) → (b ≡ true → Contains xs d) → Contains ys d
    → Contains (if b then xs else ys) d
in_one_of true xs ys d first other = first refl
in_one_of false xs ys d first other = other

meant_day : (p : Rules) (t : TerritoryModel) (w : WrittenDate) (d : ℕ) → IsDay p d
    → label_of w ≡ local_label p (regime_at t d) d
    → (w.is_double ≡ true → pos (w.year + 1) ≡ (date_of (regime_at t d).calendar d).year)
    → Contains (days_meant p t w) d
unfolding days_meant
meant_day p t w d on labelled later =
    let read = read_day p t (label_of w) d on (sym labelled) in
    in_one_of w.is_double (double_meant p t w) (reading p t (label_of w)) d
    (λ double. Contains-append_left (counted_double p t w) (not_counted_double p t w) d
    (in_filter (λ e. is_of_later_year w (dated_on p t e)) (reading p t (label_of w)) d
    ((Decides-int_eq (date_of (regime_at t d).calendar d).year (pos (w.year + 1))).1
    (sym (later double)))
    read))
    read

in_meaning : (p : Rules) (t : TerritoryModel) (w : WrittenDate) (given : Option Weekday) (d : ℕ)
    → Contains (days_meant p t w) d → Contains (meaning p t w given) (dated_on p t d)
unfolding meaning
in_meaning p t w given d within =
    in_either (has_weekday w given) (map (dated_on p t) (days_meant p t w)) (dated_on p t d)
    (has_weekday w given (dated_on p t d)) refl
    (in_map (dated_on p t) (days_meant p t w) d within)

-- ---- the law

written_means : (p : Rules) (t : TerritoryModel) (d : ℕ) (named : Option Weekday)
    (text : List ℕ) → IsDay p d
    → IsWritten (local_label p (regime_at t d) d) (date_of (regime_at t d).calendar d).year named
    text
    → Means p t d text
written_means p t d named text on read w given is =
    let same : read.date ≡ w = cc (read.is, is) in
    in_meaning p t w given d (subst (λ v. Contains (days_meant p t v) d) same
    (meant_day p t read.date d on read.label read.later))

pub texts_meant : (t : TerritoryModel) → AreDualTextsMeant newest_rules t
unfolding AreDualTextsMeant AreDualTextsWritten AreNamedDaysWritten
texts_meant t d on late = (
  written_means newest_rules t d _ _ on (dual_texts_written (regime_at t d) d on late),
  written_means newest_rules t d _ _ on (named_days_written (regime_at t d) d on late),
)
