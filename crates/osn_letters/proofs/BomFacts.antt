-- A byte order mark at the beginning of a text that is there as a whole.
use Rattle.std.proofs.Common.{◌≡◌, ◌∙◌, ℕ, Bool, true, false, ◌&&◌, if◌then◌else◌, List, [], ◌∷◌}
use Rattle.std.proofs.Common.{take, drop, nat_eq, refl, sym, ap}
use Rattle.std.specs.Cmp.Lexicographic.{as_long, pointwise}
use Rattle.csv.specs.Reading.{is_bom, strip_bom}

three : (x y z : Bool) → x && y && z ≡ x && (y && (z && true))
three true true true = refl
three true true false = refl
three true false true = refl
three true false false = refl
three false true true = refl
three false true false = refl
three false false true = refl
three false false false = refl

abbrev pub mark : List ℕ
mark = 0xEF ∷ 0xBB ∷ 0xBF ∷ []

pub is_marked : (text : List ℕ) → pointwise nat_eq (take 3 text) mark ≡ true
    → drop 3 text ≡ strip_bom text
unfolding strip_bom
is_marked [] h = absurd (cc (as_long nat_eq [] mark h))
is_marked (a ∷ []) h = absurd (cc (as_long nat_eq (a ∷ []) mark h))
is_marked (a ∷ b ∷ []) h = absurd (cc (as_long nat_eq (a ∷ b ∷ []) mark h))
is_marked (a ∷ b ∷ c ∷ rest) h =
    let e : is_bom a b c ≡ true = three (nat_eq a 0xEF) (nat_eq b 0xBB) (nat_eq c 0xBF) ∙ h in
    sym (ap (λ t. if t then rest else a ∷ b ∷ c ∷ rest) e)

pub is_unmarked : (text : List ℕ) → pointwise nat_eq (take 3 text) mark ≡ false
    → text ≡ strip_bom text
unfolding strip_bom
is_unmarked [] h = refl
is_unmarked (a ∷ []) h = refl
is_unmarked (a ∷ b ∷ []) h = refl
is_unmarked (a ∷ b ∷ c ∷ rest) h =
    let e : is_bom a b c ≡ false = three (nat_eq a 0xEF) (nat_eq b 0xBB) (nat_eq c 0xBF) ∙ h in
    sym (ap (λ t. if t then rest else a ∷ b ∷ c ∷ rest) e)
