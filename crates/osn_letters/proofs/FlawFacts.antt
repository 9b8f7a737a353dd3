-- The row of a record that has a flaw, field by field.
use Rattle.std.proofs.Common.{◌≡◌, ◌<◌, ◌≤◌, ◌∙◌, ℕ, zero, suc, ◌-◌, List, [], ◌∷◌, ◌++◌, get_or}
use Rattle.std.proofs.Common.{refl, sym, ap, arith, append_assoc, append-nil}
use Rattle.osn_letters.specs.Table.{fields_from}

-- the first of the fields that are left
first_left : (fields : List (List ℕ)) (i n m : ℕ) → n ≡ suc m
    → fields_from fields i n ≡ get_or fields i [] ∷ fields_from fields (suc i) m
first_left fields i n m is = ap (fields_from fields i) is

pub field_left : (fields before after whole : List (List ℕ)) (field : List ℕ) (i next end : ℕ)
    → i < end → next ≡ suc i → field ≡ get_or fields i [] → after ≡ before ++ field ∷ []
    → before ++ fields_from fields i (end - i) ≡ whole
    → after ++ fields_from fields next (end - next) ≡ whole
field_left fields before after whole field i next end low next_is is made all =
    let left : end - i ≡ suc (end - suc i) = omega (arith, low) in
    ap (λ k. after ++ fields_from fields k (end - k)) next_is
    ∙ ap (λ l. l ++ fields_from fields (suc i) (end - suc i)) made
    ∙ append_assoc before (field ∷ []) (fields_from fields (suc i) (end - suc i))
    ∙ ap (λ x. before ++ (x ∷ fields_from fields (suc i) (end - suc i))) is
    ∙ ap (λ l. before ++ l) (sym (first_left fields i (end - i) (end - suc i) left))
    ∙ all

-- once there is no field left
pub none_left : (fields made whole : List (List ℕ)) (i end : ℕ) → end ≤ i
    → made ++ fields_from fields i (end - i) ≡ whole → made ≡ whole
none_left fields made whole i end high all =
    let none : end - i ≡ 0 = omega (arith, high) in
    sym (append-nil made) ∙ ap (λ n. made ++ fields_from fields i n) (sym none) ∙ all

-- the three parts of the row
pub three_parts : (one two three a b c : List (List ℕ)) → one ≡ [] ++ a → two ≡ one ++ b
    → three ≡ two ++ c → three ≡ a ++ (b ++ c)
three_parts one two three a b c e f g =
    g ∙ ap (λ l. l ++ c) (f ∙ ap (λ l. l ++ b) e) ∙ append_assoc a b c
