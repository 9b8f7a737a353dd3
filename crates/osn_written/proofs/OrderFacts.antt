-- Numbers in ascending order are given by their sums: so what a sort makes of the days of two years
-- is the filter of the line.
use Rattle.std.proofs.Common.{◌≡◌, ◌≤◌, ◌<◌, ◌+◌, ◌==◌, ℕ, zero, suc, Bool, true, false, refl}
use Rattle.std.proofs.Common.{if◌then◌else◌, ◌&&◌, ◌||◌, not, List, [], ◌∷◌, ◌++◌, filter, sym, ap}
use Rattle.std.proofs.Common.{◌∙◌, arith, inl, inr, subst, pos, ℤ}
use Rattle.std.proofs.lemmas.Bool.{cases_order}
use Rattle.std.proofs.lemmas.Bool.Decides.{Decides-eqb, Decides-int_eq, nat_tests}
use Rattle.std.proofs.lemmas.Int.{ints}
use Rattle.std.proofs.lemmas.List.Sorted.{IsNonDecreasingBy-from_sort, IsPermutation-filter_both}
use Rattle.std.proofs.lemmas.List.Sorted.{sum_by-IsPermutation}
use Rattle.std.proofs.lemmas.List.Sums.{sum_by-cons}
use Rattle.std.specs.List.{range_with_len, sum_by}
use Rattle.std.specs.List.Sorted.{IsSorted, IsPermutation, IsNonDecreasingBy}
use Rattle.std.specs.Ordering.{int_eq, nat_cmp}
use Rattle.osn_days.specs.Line.{line}
use Rattle.osn_days.specs.Rules.{Rules}
use Rattle.osn_days.proofs.RangeFacts.{filter_same, filter_both}
use Rattle.osn_written.specs.declared.any_date.PartialDate.{PartialDate}
use Rattle.osn_territory.specs.Dating.{dated_on}
use Rattle.osn_territory.specs.Style.{is_before_25_march}
use Rattle.osn_territory.specs.Territory.{TerritoryModel}
use Rattle.osn_written.specs.Runs.{all_labelled, all_double, is_labelled, is_meant_double}
use Rattle.osn_written.specs.Runs.{year_of, has_month_and_day}

-- ---- lists in ascending order

-- the first is at least that number, and each other one at least the one before it
abbrev Ascends : ℕ → List ℕ → Type 0
Ascends b [] = Unit {0}
Ascends b (x ∷ xs) = (b ≤ x) × Ascends x xs

ascends_after : (x : ℕ) (xs : List ℕ) → IsNonDecreasingBy (λ z. z) (x ∷ xs) → Ascends x xs
ascends_after x [] order = tt
ascends_after x (y ∷ ys) order = (
  order 0 1 0 (omega arith) (omega arith),
  ascends_after y ys (λ i j d low high. order (suc i) (suc j) d (omega (arith, low))
      (omega (arith, high))),
)

ascends : (xs : List ℕ) → IsNonDecreasingBy (λ z. z) xs → Ascends 0 xs
ascends [] order = tt
ascends (x ∷ xs) order = (omega arith, ascends_after x xs order)

ascends_step : (a b : ℕ) (ds : List ℕ) (here : Bool) → b ≤ a
    → ((c : ℕ) → c ≤ a + 1 → Ascends c ds) → Ascends b (if here then a ∷ ds else ds)
ascends_step a b ds true low rest = (low, rest a (omega arith))
ascends_step a b ds false low rest = rest b (omega (arith, low))

ascends_filter : (test : ℕ → Bool) (n a b : ℕ) → b ≤ a
    → Ascends b (filter test (range_with_len a n))
ascends_filter test zero a b low = tt
ascends_filter test (suc n) a b low =
    ascends_step a b (filter test (range_with_len (a + 1) n)) (test a) low
    (λ c less. ascends_filter test n (a + 1) c less)

-- ---- how often a number is in a list

abbrev is_at : ℕ → ℕ → ℕ
is_at x d = if d == x then 1 else 0

here_once : (x : ℕ) → is_at x x ≡ 1
here_once x = ap (λ b. if b then 1 else 0) ((Decides-eqb x x).1 refl)

apart_number : (x y : ℕ) → x < y → (y == x) ≡ false
apart_number x y less = grind (arith, nat_tests)

there_never : (x y : ℕ) → x < y → is_at x y ≡ 0
there_never x y less = ap (λ b. if b then 1 else 0) (apart_number x y less)

never : (x b : ℕ) (ys : List ℕ) → x < b → Ascends b ys → sum_by (is_at x) ys ≡ 0
never x b [] less order = refl
never x b (y ∷ ys) less order =
    let here = there_never x y (omega (arith, less, order.0)) in
    let rest = never x y ys (omega (arith, less, order.0)) order.1 in
    let sum = sum_by-cons (is_at x) y ys in
    omega (arith, here, rest, sum)

missing : (x y : ℕ) (xs ys : List ℕ) → x < y → Ascends y ys
    → ((w : ℕ → ℕ) → sum_by w (x ∷ xs) ≡ sum_by w (y ∷ ys)) → ⊥
missing x y xs ys less order same =
    let here = here_once x in
    let there = there_never x y less in
    let rest = never x y ys less order in
    let first = sum_by-cons (is_at x) x xs in
    let second = sum_by-cons (is_at x) y ys in
    let both = same (is_at x) in
    omega (arith, here, there, rest, first, second, both)

without_first : (x y : ℕ) (xs ys : List ℕ) → x ≡ y
    → ((w : ℕ → ℕ) → sum_by w (x ∷ xs) ≡ sum_by w (y ∷ ys))
    → (w : ℕ → ℕ) → sum_by w xs ≡ sum_by w ys
without_first x y xs ys first same w =
    let one = sum_by-cons w x xs in
    let other = sum_by-cons w y ys in
    let both = same w in
    let weight = ap w first in
    omega (arith, one, other, both, weight)

-- two lists in ascending order with the same sums are one
one_order : (xs ys : List ℕ) (b : ℕ) → Ascends b xs → Ascends b ys
    → ((w : ℕ → ℕ) → sum_by w xs ≡ sum_by w ys) → xs ≡ ys
one_order [] [] b order_x order_y same = refl
one_order [] (y ∷ ys) b order_x order_y same =
    let sum = sum_by-cons (λ z. 1) y ys in
    let none : 0 ≡ sum_by (λ z. 1) (y ∷ ys) = same (λ z. 1) in
    absurd (omega (arith, sum, none))
one_order (x ∷ xs) [] b order_x order_y same =
    let sum = sum_by-cons (λ z. 1) x xs in
    let none : sum_by (λ z. 1) (x ∷ xs) ≡ 0 = same (λ z. 1) in
    absurd (omega (arith, sum, none))
one_order (x ∷ xs) (y ∷ ys) b order_x order_y same =
    elim (cases_order x y) [
      | inl first ↦ ap (λ z. z ∷ xs) first ∙ ap (λ zs. y ∷ zs) (one_order xs ys y
          (subst (λ z. Ascends z xs) first order_x.1) order_y.1
          (without_first x y xs ys first same))
      | inr (inl less) ↦ absurd (missing x y xs ys less order_y.1 same)
      | inr (inr more) ↦ absurd (missing y x ys xs more order_x.1 (λ w. sym (same w)))
    ]

-- ---- days of two years

both_ways : (f h : Bool) → (f && h) ≡ (h && f)
both_ways true true = refl
both_ways true false = refl
both_ways false true = refl
both_ways false false = refl

-- of the days that a double year means, those without the first year have the later one
pub later_alone : (j f g m t : Bool) → (f ≡ true → g ≡ true → ⊥)
    → (((j && (f || (g && m))) && t) && not (f && t))
    ≡ ((g && t) && ((j && (f || (g && m))) && t))
later_alone true true true m t apart = absurd (apart refl refl)
later_alone false true true m t apart = absurd (apart refl refl)
later_alone true true false m true apart = refl
later_alone true true false m false apart = refl
later_alone false true false m true apart = refl
later_alone false true false m false apart = refl
later_alone true false true true true apart = refl
later_alone true false true true false apart = refl
later_alone true false true false true apart = refl
later_alone true false true false false apart = refl
later_alone false false true m true apart = refl
later_alone false false true m false apart = refl
later_alone true false false m true apart = refl
later_alone true false false m false apart = refl
later_alone false false false m true apart = refl
later_alone false false false m false apart = refl

pub two_years : (y : ℤ) (n : ℕ) → int_eq y (pos n) ≡ true → int_eq y (pos (n + 1)) ≡ true → ⊥
two_years y n first later =
    let one : y ≡ pos n = (Decides-int_eq y (pos n)).0 first in
    let other : y ≡ pos (n + 1) = (Decides-int_eq y (pos (n + 1))).0 later in
    omega (arith, ints, one, other)

-- a filter of numbers in a row is another one's part and the rest, each filtered again
pub in_parts : (f g h : ℕ → Bool) (a n : ℕ)
    → ((d : ℕ) → (h d && not (f d)) ≡ (g d && h d))
    → IsPermutation (filter h (range_with_len a n))
    (filter h (filter f (range_with_len a n)) ++ filter h (filter g (range_with_len a n)))
in_parts f g h a n rest =
    let xs = range_with_len a n in
    let first : filter f (filter h xs) ≡ filter h (filter f xs) =
    filter_both f h xs
    ∙ filter_same (λ d. h d && f d) (λ d. f d && h d) a n (λ d low high. both_ways (h d) (f d))
    ∙ sym (filter_both h f xs) in
    let second : filter (λ d. not (f d)) (filter h xs) ≡ filter h (filter g xs) =
    filter_both (λ d. not (f d)) h xs
    ∙ filter_same (λ d. h d && not (f d)) (λ d. g d && h d) a n (λ d low high. rest d)
    ∙ sym (filter_both h g xs) in
    subst (λ ys. IsPermutation (filter h xs) (ys ++ filter h (filter g xs))) first
    (subst (λ zs. IsPermutation (filter h xs) (filter f (filter h xs) ++ zs)) second
    (IsPermutation-filter_both f (λ d. not (f d)) (λ d. refl) (filter h xs)))

in_order : (test : ℕ → Bool) (n : ℕ) (found sorted : List ℕ)
    → IsPermutation (filter test (range_with_len 1 n)) found → IsPermutation found sorted
    → IsSorted nat_cmp sorted → sorted ≡ filter test (range_with_len 1 n)
in_order test n found sorted parts moved order =
    one_order sorted (filter test (range_with_len 1 n)) 0
    (ascends sorted (IsNonDecreasingBy-from_sort (λ z. z) sorted order))
    (ascends_filter test n 1 0 (omega arith))
    (λ w. sum_by-IsPermutation w found sorted moved
    ∙ sum_by-IsPermutation w (filter test (range_with_len 1 n)) found parts)

-- the days of a double year, sorted, are those of the search
pub double_in_order : (p : Rules) (t : TerritoryModel) (date : PartialDate) (y z : ℤ)
    (found sorted : List ℕ) → y ≡ pos (year_of date).first → z ≡ pos ((year_of date).first + 1)
    → found ≡ filter (λ d. is_meant_double date (dated_on p t d)) (all_labelled p t date y)
    ++ filter (λ d. is_meant_double date (dated_on p t d)) (all_labelled p t date z)
    → IsPermutation found sorted → IsSorted nat_cmp sorted → sorted ≡ all_double p t date
unfolding all_labelled all_double line
double_in_order p t date y z found sorted first later is moved order =
    let n = (year_of date).first in
    let f : ℤ → ℕ → Bool = λ year d. is_labelled date year (dated_on p t d) in
    let h : ℕ → Bool = λ d. is_meant_double date (dated_on p t d) in
    let all = range_with_len 1 p.high in
    let parts = in_parts (f (pos n)) (f (pos (n + 1))) h 1 p.high (λ d.
    later_alone (int_eq (dated_on p t d).january_year (pos (n + 1)))
    (int_eq (dated_on p t d).label.year (pos n))
    (int_eq (dated_on p t d).label.year (pos (n + 1)))
    (is_before_25_march (dated_on p t d).label.month (dated_on p t d).label.day)
    (has_month_and_day date (dated_on p t d).label)
    (two_years (dated_on p t d).label.year n)) in
    in_order h p.high found sorted
    (subst (IsPermutation (filter h all)) (sym (is
    ∙ ap (λ (year : ℤ). filter h (filter (f year) all) ++ filter h (filter (f z) all)) first
    ∙ ap (λ (year : ℤ). filter h (filter (f (pos n)) all) ++ filter h (filter (f year) all))
    later)) parts)
    moved order
