-- Days of runs, one more at a time.
use Rattle.std.proofs.Common.{◌≡◌, ◌≤◌, ◌+◌, ◌-◌, ℕ, zero, suc, List, [], ◌∷◌, ◌++◌, map, ap, ◌∙◌}
use Rattle.std.proofs.Common.{arith, append_assoc, sym}
use Rattle.std.specs.List.{range_with_len}
use Rattle.std.proofs.lemmas.List.{map-append}

range_more : (a n : ℕ) → range_with_len a (suc n) ≡ range_with_len a n ++ (a + n) ∷ []
range_more a zero = ap (λ b. b ∷ []) (omega arith)
range_more a (suc n) =
    ap (λ ns. a ∷ ns) (range_more (a + 1) n
    ∙ ap (λ b. range_with_len (a + 1) n ++ b ∷ []) (omega arith))

-- one day more
pub one_day : {X : Type 0} (f : ℕ → X) (before now new : List X) (x : X) (a n : ℕ) → a ≤ n
    → now ≡ before ++ map f (range_with_len a (n - a)) → new ≡ now ++ x ∷ [] → x ≡ f n
    → new ≡ before ++ map f (range_with_len a (n + 1 - a))
one_day f before now new x a n low so_far pushed is =
    let count : n + 1 - a ≡ suc (n - a) = omega (arith, low) in
    let last : a + (n - a) ≡ n = omega (arith, low) in
    pushed
    ∙ ap (λ xs. xs ++ x ∷ []) so_far
    ∙ ap (λ y. (before ++ map f (range_with_len a (n - a))) ++ y ∷ []) is
    ∙ append_assoc before (map f (range_with_len a (n - a))) (f n ∷ [])
    ∙ ap (λ m. before ++ (map f (range_with_len a (n - a)) ++ f m ∷ [])) (sym last)
    ∙ ap (λ xs. before ++ xs)
    (sym (map-append f (range_with_len a (n - a)) ((a + (n - a)) ∷ [])))
    ∙ ap (λ ds. before ++ map f ds) (sym (range_more a (n - a)))
    ∙ ap (λ m. before ++ map f (range_with_len a m)) (sym count)
