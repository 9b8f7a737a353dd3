-- A look-up of a year, and of a year that is another.
use Rattle.std.proofs.Common.{◌≡◌, ℕ, false, ◌==◌, cond, Some, List, [], ◌∷◌, refl, ap, ◌∙◌, arith}
use Rattle.std.proofs.lemmas.Bool.Decides.{nat_tests}
use Rattle.std.specs.Map.{lookup}
use Rattle.std.specs.Ordering.{is_eq, nat_cmp}

pub is_elsewhere : (year other : ℕ) → (other ≡ year → ⊥) → is_eq (nat_cmp year other) ≡ false
is_elsewhere year other apart = grind (arith, nat_tests)

same_test : (year key : ℕ) → (year == key) ≡ is_eq (nat_cmp year key)
same_test year key = grind (arith, nat_tests)

-- the map compares as the definition tests
pub same_lookup : (year : ℕ) (es : List (ℕ × ℕ)) →
    lookup (λ key. year == key) es ≡ lookup (λ key. is_eq (nat_cmp year key)) es
same_lookup year [] = refl
same_lookup year (e ∷ es) =
    ap (λ b. cond b (Some e.1) (lookup (λ key. year == key) es)) (same_test year e.0)
    ∙ ap (λ found. cond (is_eq (nat_cmp year e.0)) (Some e.1) found) (same_lookup year es)
