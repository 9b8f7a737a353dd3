-- What a filter that passes nothing says of each day.
use Rattle.std.proofs.Common.{◌≡◌, ℕ, ◌≤◌, Bool, true, false, List, [], ◌∷◌, filter, refl, sym}
use Rattle.std.proofs.Common.{arith}
use Rattle.std.specs.List.{range_with_len, list_any}
use Rattle.osn_days.proofs.RangeFacts.{passes_none}
use Rattle.osn_territory.specs.Territory.{is_empty}

pub no_days_is : (ds : List ℕ) → is_empty ds ≡ true → ds ≡ []
no_days_is [] is = refl
no_days_is (d ∷ ds) is = let none : false ≡ true = is in absurd cc

pub some_days_any : (ds : List ℕ) → is_empty ds ≡ false → list_any (λ d. true) ds ≡ true
some_days_any [] is = let none : true ≡ false = is in absurd cc
some_days_any (d ∷ ds) is = refl

-- a filter that passes nothing passes no day
pub no_days_not : (f : ℕ → Bool) (n d : ℕ) → is_empty (filter f (range_with_len 1 n)) ≡ true →
    1 ≤ d → d ≤ n → f d ≡ true → ⊥
no_days_not f n d none low high passes =
    passes_none f 1 n d (sym (no_days_is (filter f (range_with_len 1 n)) none)) low (omega arith)
    passes
