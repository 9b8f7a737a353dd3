-- Texts that an iterator joins, in the words of the definitions.
use Rattle.std.proofs.Common.{◌≡◌, ◌∙◌, ℕ, Bool, true, false, if◌then◌else◌, List, [], ◌∷◌, ◌++◌}
use Rattle.std.proofs.Common.{map, filter, Bor, refl, sym, ap}
use Rattle.std.proofs.lemmas.List.{map-append}
use Rattle.std.specs.List.{flat_map, join_by}
use Rattle.itertools.specs.Consumer.{joined}

pub joined_is : {X : Type 0} (word : X → List ℕ) (separator : List ℕ) (xs : List X)
    → joined word separator xs ≡ join_by word separator xs
joined_is word separator [] = refl
joined_is word separator (x ∷ xs) = refl

further_map : {X Y : Type 0} (word : Y → List ℕ) (f : X → Y) (separator : List ℕ) (xs : List X)
    → flat_map (λ y. separator ++ word y) (map f xs)
    ≡ flat_map (λ x. separator ++ word (f x)) xs
further_map word f separator [] = refl
further_map word f separator (x ∷ xs) =
    ap (λ rest. (separator ++ word (f x)) ++ rest) (further_map word f separator xs)

pub join_by_map : {X Y : Type 0} (word : Y → List ℕ) (f : X → Y) (separator : List ℕ)
    (xs : List X) → joined word separator (map f xs) ≡ join_by (λ x. word (f x)) separator xs
join_by_map word f separator [] = refl
join_by_map word f separator (x ∷ xs) =
    ap (λ rest. word (f x) ++ rest) (further_map word f separator xs)

pub joined_now : {X : Type 0} (word : X → List ℕ) (separator : List ℕ) (refs : List (Bor X))
    → joined (λ r. word r.now) separator refs ≡ joined word separator (map (λ r. r.now) refs)
joined_now word separator [] = refl
joined_now word separator (r ∷ refs) =
    ap (λ rest. word r.now ++ rest) (sym (further_map word (λ x. x.now) separator refs))

-- ---- what an iterator over references gives

pub map_now : {A B : Type 0} (f : A → B) (refs : List (Bor A))
    → map (λ y. f y.now) refs ≡ map f (map (λ y. y.now) refs)
map_now f [] = refl
map_now f (y ∷ ys) = ap (λ rest. f y.now ∷ rest) (map_now f ys)

one_passed : {A B : Type 0} (f : A → B) (test : Bool) (y : Bor A) (ys : List (Bor A))
    (rest : List A) → map (λ y. f y.now) ys ≡ map f rest
    → map (λ y. f y.now) (if test then y ∷ ys else ys)
    ≡ map f (if test then y.now ∷ rest else rest)
one_passed f true y ys rest same = ap (λ xs. f y.now ∷ xs) same
one_passed f false y ys rest same = same

pub filter_now : {A B : Type 0} (f : A → B) (test : A → Bool) (refs : List (Bor A))
    → map (λ y. f y.now) (filter (λ y. test y.now) refs)
    ≡ map f (filter test (map (λ y. y.now) refs))
filter_now f test [] = refl
filter_now f test (y ∷ ys) =
    one_passed f (test y.now) y (filter (λ y. test y.now) ys)
    (filter test (map (λ y. y.now) ys)) (filter_now f test ys)

-- what an iterator over two lists gives, one after the other
pub chained_now : {A : Type 0} (all ps qs : List (Bor A)) (xs ys : List A) → all ≡ ps ++ qs
    → map (λ y. y.now) ps ≡ xs → map (λ y. y.now) qs ≡ ys → map (λ y. y.now) all ≡ xs ++ ys
chained_now all ps qs xs ys e f g =
    ap (map (λ y. y.now)) e
    ∙ (map-append (λ y. y.now) ps qs
    ∙ (ap (λ l. l ++ map (λ y. y.now) qs) f ∙ ap (λ l. xs ++ l) g))
