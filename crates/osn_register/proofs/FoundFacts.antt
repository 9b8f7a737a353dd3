-- The items of an answer, made one by one.
use Rattle.std.proofs.Common.{◌≡◌, ℕ, ◌+◌, ◌<◌, ◌≤◌, List, [], ◌∷◌, ◌++◌, length, map, take, get_or}
use Rattle.std.proofs.Common.{ap, sym, ◌∙◌}
use Rattle.std.proofs.lemmas.List.{map_more, take_all}

-- the items so far, each as it is made, with one more
pub found_more : {A B : Type 0} (f : A → B) (items : List A) (i : ℕ) (item : A)
    (found more : List B) (next : B) → i < length items → item ≡ get_or items i item
    → found ≡ map f (take i items) → more ≡ found ++ next ∷ [] → next ≡ f item
    → more ≡ map f (take (i + 1) items)
found_more f items i item found more next within at before pushed is =
    pushed
    ∙ ap (λ fs. fs ++ next ∷ []) before
    ∙ ap (λ g. map f (take i items) ++ g ∷ []) (is ∙ ap f at)
    ∙ sym (map_more f items i item within)

pub found_all : {A B : Type 0} (f : A → B) (items : List A) (i : ℕ) (found : List B)
    → length items ≤ i → found ≡ map f (take i items) → found ≡ map f items
found_all f items i found past is = is ∙ ap (map f) (take_all i items past)
