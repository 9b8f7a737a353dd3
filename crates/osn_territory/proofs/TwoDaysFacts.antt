-- A label has two days at most under one regime.
use Rattle.std.proofs.Common.{◌≡◌, ℕ, ◌-◌, ◌≤◌, inl, List, ◌++◌, Bool, []}
use Rattle.std.proofs.Common.{true, false, if◌then◌else◌, length, refl, sym, ◌∙◌}
use Rattle.std.proofs.Common.{arith, ℤ, pos, ◌+ℤ◌, ◌-ℤ◌, subst, ◌∷◌}
use Rattle.std.proofs.lemmas.Bool.{and_parts}
use Rattle.std.proofs.lemmas.List.{length-append}
use Rattle.std.proofs.lemmas.Int.{ints}
use Rattle.std.specs.Ordering.{int_eq}
use Rattle.osn_days.specs.declared.date.Date.{Date}
use Rattle.osn_days.specs.Rules.{Rules}
use Rattle.osn_days.specs.Line.{line}
use Rattle.osn_days.specs.Chain.{date_of}
use Rattle.osn_days.proofs.ChainFacts.{chain_apart}
use Rattle.osn_days.proofs.RangeFacts.{any_in, filter_single}
use Rattle.osn_territory.specs.declared.style.Style.{Style}
use Rattle.osn_territory.specs.declared.style.Style.TheVariants.{January, Annunciation, Nativity}
use Rattle.osn_territory.specs.declared.style.Style.TheVariants.{September, Pisan, Easter}
use Rattle.osn_territory.specs.declared.regime.Regime.{Regime}
use Rattle.osn_territory.specs.declared.label.Label.{Label}
use Rattle.osn_territory.specs.Style.{is_before_25_march, is_from_25_december, is_from_september}
use Rattle.osn_territory.specs.Style.{is_before_easter, year_by, style_year}
use Rattle.osn_territory.specs.Label.{local_label, days_with_label}
use Rattle.osn_territory.specs.Territory.{is_empty}
use Rattle.osn_territory.specs.LabelSearch.{has_label, days_in_year}
use Rattle.osn_territory.proofs.MemberFacts.{some_days_any}
use Rattle.osn_territory.proofs.LabelFacts.{in_year, in_year_year, in_year_date, three_years}
use Rattle.osn_territory.proofs.LabelFacts.{same_label_decides}

-- no style both adds one to the year of a date and takes one off that of another

never_more : (b : Bool) (y : ℤ) → (if b then y -ℤ pos 1 else y) ≡ y +ℤ pos 1 → ⊥
never_more true y e = omega (arith, ints, e)
never_more false y e = omega (arith, ints, e)

never_less : (b : Bool) (y : ℤ) → (if b then y +ℤ pos 1 else y) ≡ y -ℤ pos 1 → ⊥
never_less true y e = omega (arith, ints, e)
never_less false y e = omega (arith, ints, e)

never_less_unless : (b : Bool) (y : ℤ) → (if b then y else y +ℤ pos 1) ≡ y -ℤ pos 1 → ⊥
never_less_unless true y e = omega (arith, ints, e)
never_less_unless false y e = omega (arith, ints, e)

never_both : (s : Style) (d e : Date) (b c : Bool) → year_by s d b ≡ d.year +ℤ pos 1 →
    year_by s e c ≡ e.year -ℤ pos 1 → ⊥
never_both January d e b c more less = omega (arith, ints, more)
never_both Annunciation d e b c more less =
    never_more (is_before_25_march d.month d.day) d.year more
never_both Nativity d e b c more less =
    never_less (is_from_25_december e.month e.day) e.year less
never_both September d e b c more less = never_less (is_from_september e.month) e.year less
never_both Pisan d e b c more less =
    never_less_unless (is_before_25_march e.month e.day) e.year less
never_both Easter d e b c more less = never_more b d.year more

-- a label has no day in one of the years beside its own

counted_in : (p : Rules) (r : Regime) (l : Label) (y : ℤ) (d : ℕ) → in_year p r l y d ≡ true →
    ((date_of r.calendar d).year ≡ y) × (style_year p r d ≡ l.year)
counted_in p r l y d is =
    let both = and_parts (int_eq (date_of r.calendar d).year y) (has_label p l r d) is in
    (in_year_year p r l y d is, ((same_label_decides (local_label p r d) l).0 both.1).0)

not_on_both_sides : (p : Rules) (r : Regime) (l : Label) (d e : ℕ) →
    in_year p r l (l.year -ℤ pos 1) d ≡ true → in_year p r l (l.year +ℤ pos 1) e ≡ true → ⊥
not_on_both_sides p r l d e before after =
    let of_d = counted_in p r l (l.year -ℤ pos 1) d before in
    let of_e = counted_in p r l (l.year +ℤ pos 1) e after in
    let date_d = date_of r.calendar d in
    let date_e = date_of r.calendar e in
    never_both r.style date_d date_e (is_before_easter p date_d.year d)
    (is_before_easter p date_e.year e)
    (of_d.1 ∙ omega (arith, ints, of_d.0)) (of_e.1 ∙ omega (arith, ints, of_e.0))

one_day_in_year : (p : Rules) (r : Regime) (l : Label) (y : ℤ) →
    length (days_in_year p r l y) ≤ 1
unfolding days_in_year line
one_day_in_year p r l y = filter_single (in_year p r l y) 1 p.high (λ d e low less high here there.
    chain_apart r.calendar (d - 1) (e - 1) (inl (omega arith))
    ((in_year_date p r l y d low here).0
    ∙ sym (in_year_date p r l y e (omega (arith, low, less)) there).0))

-- of three lists of one day at most, the first and the last of which are not both there
at_most_two : (a b c : List ℕ) → length a ≤ 1 → length b ≤ 1 → length c ≤ 1 →
    (is_empty a ≡ false → is_empty c ≡ false → ⊥) → length (a ++ (b ++ c)) ≤ 2
at_most_two [] b c one_a one_b one_c apart = omega (arith, length-append b c, one_b, one_c)
at_most_two (x ∷ a) b [] one_a one_b one_c apart =
    omega (arith, length-append (x ∷ a) (b ++ []), length-append b [], one_a, one_b)
at_most_two (x ∷ a) b (z ∷ c) one_a one_b one_c apart = absurd (apart refl refl)

some_in_year : (p : Rules) (r : Regime) (l : Label) (y : ℤ) →
    is_empty (days_in_year p r l y) ≡ false → (d : ℕ) × (in_year p r l y d ≡ true)
unfolding days_in_year line
some_in_year p r l y some =
    let d = any_in (λ e. true) (in_year p r l y) 1 p.high
    (some_days_any (days_in_year p r l y) some) in
    (d.0, d.1.passes)

-- a label has two days at most under one regime
pub two_days_of_label : (p : Rules) (r : Regime) (l : Label) → length (days_with_label p r l) ≤ 2
two_days_of_label p r l =
    let before = days_in_year p r l (l.year -ℤ pos 1) in
    let same = days_in_year p r l l.year in
    let after = days_in_year p r l (l.year +ℤ pos 1) in
    subst (λ days. length days ≤ 2) (three_years p r l)
    (at_most_two before same after (one_day_in_year p r l (l.year -ℤ pos 1))
    (one_day_in_year p r l l.year) (one_day_in_year p r l (l.year +ℤ pos 1)) (λ first last.
    let d = some_in_year p r l (l.year -ℤ pos 1) first in
    let e = some_in_year p r l (l.year +ℤ pos 1) last in
    not_on_both_sides p r l d.0 e.0 d.1 e.1))
