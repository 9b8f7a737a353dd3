-- The years of listed Easters ascend, before and after one is listed or dropped.
use Rattle.std.proofs.Common.{◌≡◌, ℕ, ◌+◌, ◌<◌, ◌≤◌, cond, true, false, ◌==◌, List, [], ◌∷◌, arith}
use Rattle.std.proofs.Common.{refl}
use Rattle.std.proofs.lemmas.Bool.Decides.{nat_tests}
use Rattle.std.proofs.lemmas.Map.Keys.{sorted_from_strictly_increasing}
use Rattle.std.proofs.lemmas.Map.Keys.{IsStrictlyIncreasing-from_sorted, sorted_head, sorted_tail}
use Rattle.std.specs.List.{AllByRecursion}
use Rattle.std.specs.List.Sorted.{IsStrictlySortedBy}
use Rattle.std.specs.Map.{keys_of, remove_entry}
use Rattle.std.specs.BTreeMap.{insert_entry}
use Rattle.std.specs.declared.cmp.Ordering.{Ordering}
use Rattle.std.specs.declared.cmp.Ordering.TheVariants.{Less, Equal, Greater}
use Rattle.std.specs.Ordering.{match_ordering, nat_cmp}
use Rattle.osn_territory.specs.Territory.{TerritoryModel}
use Rattle.osn_territory.specs.Exceptions.{HasAscendingYears, with_exception, without_exception}

-- the years ascend from this one on
abbrev pub AscendFrom : ℕ → List (ℕ × ℕ) → Type 0
AscendFrom n [] = Unit {0}
AscendFrom n (e ∷ es) = (n ≤ e.0) × AscendFrom (e.0 + 1) es

less_is : (a b : ℕ) → nat_cmp a b ≡ Less → a + 1 ≤ b
less_is a b h = grind (arith, nat_tests)

is_less : (a b : ℕ) → a < b → nat_cmp a b ≡ Less
is_less a b h = grind (arith, nat_tests)

greater_is : (a b : ℕ) → nat_cmp a b ≡ Greater → b + 1 ≤ a
greater_is a b h = grind (arith, nat_tests)

from_less : (n : ℕ) (es : List (ℕ × ℕ)) → AllByRecursion (λ y. nat_cmp n y ≡ Less) (keys_of es) →
    IsStrictlySortedBy nat_cmp (keys_of es) → AscendFrom (n + 1) es
from_less n [] above sorted = tt
from_less n (e ∷ es) above sorted = (
  less_is n e.0 above.0,
  from_less e.0 es (sorted_head nat_cmp e.0 (keys_of es) sorted)
      (sorted_tail nat_cmp e.0 (keys_of es) sorted),
)

from_sorted : (es : List (ℕ × ℕ)) → IsStrictlySortedBy nat_cmp (keys_of es) → AscendFrom 0 es
from_sorted [] sorted = tt
from_sorted (e ∷ es) sorted = (
  omega arith,
  from_less e.0 es (sorted_head nat_cmp e.0 (keys_of es) sorted)
      (sorted_tail nat_cmp e.0 (keys_of es) sorted),
)

pub ascend_from : (t : TerritoryModel) → HasAscendingYears t → AscendFrom 0 t.exceptions
ascend_from t up =
    from_sorted t.exceptions (sorted_from_strictly_increasing (keys_of t.exceptions) up)

all_above : (n m : ℕ) (es : List (ℕ × ℕ)) → n < m → AscendFrom m es →
    AllByRecursion (λ y. nat_cmp n y ≡ Less) (keys_of es)
all_above n m [] low from = tt
all_above n m (e ∷ es) low from = (
  is_less n e.0 (omega (arith, from.0)),
  all_above n (e.0 + 1) es (omega (arith, from.0)) from.1,
)

sorted : (n : ℕ) (es : List (ℕ × ℕ)) → AscendFrom n es → IsStrictlySortedBy nat_cmp (keys_of es)
unfolding IsStrictlySortedBy
sorted n [] from = tt
sorted n (e ∷ es) from =
    (all_above e.0 (e.0 + 1) es (omega arith) from.1, sorted (e.0 + 1) es from.1)

pub ascending : (t : TerritoryModel) → AscendFrom 0 t.exceptions → HasAscendingYears t
ascending t from =
    IsStrictlyIncreasing-from_sorted (keys_of t.exceptions) (sorted 0 t.exceptions from)

weaken : (m n : ℕ) (es : List (ℕ × ℕ)) → m ≤ n → AscendFrom n es → AscendFrom m es
weaken m n [] low from = tt
weaken m n (e ∷ es) low from = (omega (arith, from.0), from.1)

inserted : (n y d : ℕ) (es : List (ℕ × ℕ)) → n ≤ y → AscendFrom n es →
    AscendFrom n (insert_entry nat_cmp es y d)
inserted n y d [] low from = (low, tt)
inserted n y d (e ∷ es) low from =
    by (nat_cmp y e.0) refl (λ high. inserted (e.0 + 1) y d es high from.1)
  where
    by : (o : Ordering) → nat_cmp y e.0 ≡ o →
        (e.0 + 1 ≤ y → AscendFrom (e.0 + 1) (insert_entry nat_cmp es y d)) →
        AscendFrom n (match_ordering o ((y, d) ∷ e ∷ es) ((e.0, d) ∷ es)
        (e ∷ insert_entry nat_cmp es y d))
    by Less is later = (low, (less_is y e.0 is, from.1))
    by Equal is later = from
    by Greater is later = (from.0, later (greater_is y e.0 is))

removed : (n y : ℕ) (es : List (ℕ × ℕ)) → AscendFrom n es →
    AscendFrom n (remove_entry (λ other. y == other) es)
removed n y [] from = tt
removed n y (e ∷ es) from =
    elim (y == e.0) as (λ b. AscendFrom n (cond b es
    (e ∷ remove_entry (λ other. y == other) es))) [
      | true ↦ weaken n (e.0 + 1) es (omega (arith, from.0)) from.1
      | false ↦ (from.0, removed (e.0 + 1) y es from.1)
    ]

pub ascend_with : (t : TerritoryModel) (y d : ℕ) → HasAscendingYears t →
    HasAscendingYears (with_exception t y d)
ascend_with t y d up =
    ascending (with_exception t y d) (inserted 0 y d t.exceptions (omega arith) (ascend_from t up))

pub ascend_without : (t : TerritoryModel) (y : ℕ) → HasAscendingYears t →
    HasAscendingYears (without_exception t y)
ascend_without t y up =
    ascending (without_exception t y) (removed 0 y t.exceptions (ascend_from t up))
