-- The Easters by both rules, each if its rule is in force, are those of the territory.
use Rattle.std.proofs.Common.{◌≡◌, ℕ, nat_lt, ◌<◌, ◌≤◌, inl, inr, Bool, true, false}
use Rattle.std.proofs.Common.{◌==◌, ◌&&◌, ◌||◌, nat_le, [], ◌∷◌, ◌++◌, filter, Option, Some, None}
use Rattle.std.proofs.Common.{if◌then◌else◌, refl, sym, ap, ◌∙◌, arith, eqb-true, IfSome}
use Rattle.std.proofs.Math.Bool.{or-false, or_comm}
use Rattle.std.proofs.lemmas.Bool.{and_parts, and_from, cases_order, leb-true, leb-false, both_ways}
use Rattle.std.proofs.lemmas.Bool.{false_from_ne_true}
use Rattle.std.proofs.lemmas.Bool.Decides.{Decides-eqb}
use denote.Enum.Bare.{sameb}
use Rattle.std.specs.List.{range_with_len}
use Rattle.std.specs.Option.{option_to_list, option_and_then}
use Rattle.osn_computus.specs.declared.rule.Rule.{Rule}
use Rattle.osn_computus.specs.declared.rule.Rule.TheVariants.{Julian, Gregorian}
use Rattle.osn_computus.specs.contracts.rule.Rule.{the_type}
use Rattle.osn_computus.specs.Easter.{easter_of, first_sunday_after, paschal_moon}
use Rattle.osn_days.specs.Rules.{Rules}
use Rattle.osn_days.specs.Line.{line, IsDay, weekday}
use Rattle.osn_days.proofs.RangeFacts.{filter_none, filter_one, filter_is, filter_or, find_in}
use Rattle.osn_days.proofs.RangeFacts.{passes_one, passes_none}
use Rattle.osn_territory.specs.Territory.{TerritoryModel, regime_at}
use Rattle.osn_territory.specs.Easters.{is_on, is_easter, easters_by_rule, unless_listed, easters}
use Rattle.osn_territory.specs.Exceptions.{exception_of}
use Rattle.osn_territory.specs.EasterSearch.{is_rule, easters_in_force, days_in_order}

-- the comparison of two rules
pub same_rule : (a b : Rule) → is_rule a b ≡ sameb the_type a b
same_rule Julian Julian = refl
same_rule Julian Gregorian = refl
same_rule Gregorian Julian = refl
same_rule Gregorian Gregorian = refl

-- an Easter is a day of the line

sunday_on_line : (p : Rules) (moon : Option ℕ) (e : ℕ) →
    option_and_then (first_sunday_after p) moon ≡ Some e → IsDay p e
unfolding first_sunday_after line
sunday_on_line p None e found = absurd cc
sunday_on_line p (Some m) e found =
    let bounds = find_in (λ d. nat_lt m d && (weekday d == 0)) 1 p.high e found in
    (bounds.0, omega (arith, bounds.1))

on_line : (p : Rules) (rule : Rule) (y e : ℕ) → easter_of p rule y ≡ Some e → IsDay p e
unfolding easter_of
on_line p rule y e found = sunday_on_line p (paschal_moon p rule y) e found

easter_low : (p : Rules) (rule : Rule) (y : ℕ) (easter : Option ℕ) → easter_of p rule y ≡ easter →
    IfSome easter (λ e. 1 ≤ e)
easter_low p rule y None is = tt
easter_low p rule y (Some e) is = (on_line p rule y e is).0

-- Easter is on the first day or later, if it is on the line
pub easter_on_line : (p : Rules) (rule : Rule) (y : ℕ) →
    IfSome (easter_of p rule y) (λ e. 1 ≤ e)
easter_on_line p rule y = easter_low p rule y (easter_of p rule y) refl

is_that_day : (p : Rules) (rule : Rule) (y e d : ℕ) → easter_of p rule y ≡ Some e →
    is_easter p rule y d ≡ (e == d)
is_that_day p rule y e d is = ap (λ o. is_on o d) is

-- the Easter of a rule, on a day on which it is in force
pub in_force : (p : Rules) (t : TerritoryModel) (rule : Rule) (y e : ℕ) →
    easter_of p rule y ≡ Some e → is_rule (regime_at t e).rule rule ≡ true → e
    ∷ [] ≡ easters_in_force p t rule y
unfolding easters_in_force line
in_force p t rule y e is held =
    let on = on_line p rule y e is in
    sym (filter_one (λ d. is_rule (regime_at t d).rule rule && is_easter p rule y d) 1 p.high e on.0
    (omega (arith, on.1))
    (and_from (is_rule (regime_at t e).rule rule) (is_easter p rule y e) held
    (is_that_day p rule y e e is ∙ (Decides-eqb e e).1 refl))
    (λ d from until apart.
    false_from_ne_true (is_rule (regime_at t d).rule rule && is_easter p rule y d)
    (λ passes.
    let same : e ≡ d = eqb-true e d (sym (is_that_day p rule y e d is)
    ∙ (and_parts (is_rule (regime_at t d).rule rule) (is_easter p rule y d) passes).1) in
    elim apart [ inl before ↦ omega arith | inr after ↦ omega arith ])))

-- and on one on which it is not
pub not_in_force : (p : Rules) (t : TerritoryModel) (rule : Rule) (y e : ℕ) →
    easter_of p rule y ≡ Some e → is_rule (regime_at t e).rule rule ≡ false →
    [] ≡ easters_in_force p t rule y
unfolding easters_in_force line
not_in_force p t rule y e is off =
    sym (filter_none (λ d. is_rule (regime_at t d).rule rule && is_easter p rule y d) 1 p.high
    (λ d from until.
    false_from_ne_true (is_rule (regime_at t d).rule rule && is_easter p rule y d) (λ passes.
    let parts = and_parts (is_rule (regime_at t d).rule rule) (is_easter p rule y d) passes in
    let same : e ≡ d = eqb-true e d (sym (is_that_day p rule y e d is) ∙ parts.1) in
    both_ways (is_rule (regime_at t d).rule rule)
    (ap (λ n. is_rule (regime_at t n).rule rule) (sym same) ∙ off) parts.0)))

-- two days, in order
in_order : (f g h : ℕ → Bool) (n a b : ℕ) → ((d : ℕ) → h d ≡ (f d || g d)) → a
    ∷ [] ≡ filter f (range_with_len 1 n) → b ∷ [] ≡ filter g (range_with_len 1 n) → a < b → a ∷ b
    ∷ [] ≡ filter h (range_with_len 1 n)
in_order f g h n a b either first second less =
    ap (λ l. l ++ b ∷ []) first
    ∙ ap (λ l. filter f (range_with_len 1 n) ++ l) second
    ∙ sym (filter_or f g h 1 n (λ d low high. either d)
    (λ d e low_d high_d low_e high_e here there.
    let one = passes_one f 1 n a d first low_d high_d here in
    let other = passes_one g 1 n b e second low_e high_e there in
    omega (arith, less, one, other)))

-- two days are two if no day passes both tests
apart_days : (f g : ℕ → Bool) (n a b : ℕ) → ((d : ℕ) → f d ≡ true → g d ≡ true → ⊥) → a
    ∷ [] ≡ filter f (range_with_len 1 n) → b ∷ [] ≡ filter g (range_with_len 1 n) → a ≡ b → ⊥
apart_days f g n a b apart first second same =
    let here = filter_is f 1 n a (sym first) in
    let there = filter_is g 1 n b (sym second) in
    apart a here.2 (ap g same ∙ there.2)

merge_two : (f g h : ℕ → Bool) (n a b : ℕ) (before : Bool) → ((d : ℕ) → h d ≡ (f d || g d)) →
    ((d : ℕ) → f d ≡ true → g d ≡ true → ⊥) → a ∷ [] ≡ filter f (range_with_len 1 n) → b
    ∷ [] ≡ filter g (range_with_len 1 n) → nat_le a b ≡ before →
    (if before then a ∷ b ∷ [] else b ∷ a ∷ []) ≡ filter h (range_with_len 1 n)
merge_two f g h n a b true either apart first second is =
    let le = leb-true a b is in
    elim (cases_order a b) [
      | inl same ↦ absurd (apart_days f g n a b apart first second same)
      | inr (inl lt) ↦ in_order f g h n a b either first second lt
      | inr (inr gt) ↦ absurd (omega (arith, le, gt))
    ]
merge_two f g h n a b false either apart first second is =
    in_order g f h n b a (λ d. either d ∙ or_comm (f d) (g d)) second first (leb-false a b is)

merged_is : (f g h : ℕ → Bool) (n : ℕ) (one other : Option ℕ) → ((d : ℕ) → h d ≡ (f d || g d)) →
    ((d : ℕ) → f d ≡ true → g d ≡ true → ⊥) → option_to_list one ≡ filter f (range_with_len 1 n) →
    option_to_list other ≡ filter g (range_with_len 1 n) →
    days_in_order one other ≡ filter h (range_with_len 1 n)
merged_is f g h n None None either apart first second =
    ap (λ l. l ++ []) first
    ∙ ap (λ l. filter f (range_with_len 1 n) ++ l) second
    ∙ sym (filter_or f g h 1 n (λ d low high. either d)
    (λ d e low_d high_d low_e high_e here there.
    absurd (passes_none g 1 n e second low_e high_e there)))
merged_is f g h n None (Some b) either apart first second =
    ap (λ l. l ++ b ∷ []) first
    ∙ ap (λ l. filter f (range_with_len 1 n) ++ l) second
    ∙ sym (filter_or f g h 1 n (λ d low high. either d)
    (λ d e low_d high_d low_e high_e here there.
    absurd (passes_none f 1 n d first low_d high_d here)))
merged_is f g h n (Some a) None either apart first second =
    ap (λ l. l ++ []) first
    ∙ ap (λ l. filter f (range_with_len 1 n) ++ l) second
    ∙ sym (filter_or f g h 1 n (λ d low high. either d)
    (λ d e low_d high_d low_e high_e here there.
    absurd (passes_none g 1 n e second low_e high_e there)))
merged_is f g h n (Some a) (Some b) either apart first second =
    merge_two f g h n a b (nat_le a b) either apart first second refl

-- a rule in force is the one or the other
by_rule : (p : Rules) (rule : Rule) (y d : ℕ) →
    is_easter p rule y d ≡ ((is_rule rule Julian && is_easter p Julian y d)
    || (is_rule rule Gregorian && is_easter p Gregorian y d))
by_rule p Julian y d = sym (or-false (is_easter p Julian y d))
by_rule p Gregorian y d = refl

not_both : (rule : Rule) → is_rule rule Julian ≡ true → is_rule rule Gregorian ≡ true → ⊥
not_both Julian first second = let clash : false ≡ true = second in cc
not_both Gregorian first second = let clash : false ≡ true = first in cc

-- the Easters of a year are those by the two rules, if no exception is listed
pub easters_are : (p : Rules) (t : TerritoryModel) (y : ℕ) (one other : Option ℕ) →
    exception_of t y ≡ None → option_to_list one ≡ easters_in_force p t Julian y →
    option_to_list other ≡ easters_in_force p t Gregorian y →
    days_in_order one other ≡ easters p t y
unfolding easters_in_force easters_by_rule line
easters_are p t y one other none first second =
    merged_is (λ d. is_rule (regime_at t d).rule Julian && is_easter p Julian y d) (λ d.
    is_rule (regime_at t d).rule Gregorian && is_easter p Gregorian y d) (λ d.
    is_easter p (regime_at t d).rule y d) p.high one other
    (λ d. by_rule p (regime_at t d).rule y d)
    (λ d here there. not_both (regime_at t d).rule (and_parts (is_rule (regime_at t d).rule Julian)
    (is_easter p Julian y d) here).0 (and_parts (is_rule (regime_at t d).rule Gregorian)
    (is_easter p Gregorian y d) there).0)
    first second
    ∙ sym (ap (λ o. unless_listed o (easters_by_rule p t y)) none)
