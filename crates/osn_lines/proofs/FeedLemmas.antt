-- The lines of bytes that end with a line feed, and of more bytes.
use Rattle.std.proofs.Common.{◌≡◌, ◌==◌, ◌∙◌, ℕ, Bool, true, false, cond, List, [], ◌∷◌, ◌++◌}
use Rattle.std.proofs.Common.{refl, sym, ap, subst}
use Rattle.osn_lines.specs.Lines.{lines, onto_first, EndsWithFeed}

-- bytes that have a line, and after which more bytes begin a line of their own
record Ends (bytes : List ℕ) : Type 0 where
  first : List ℕ
  rest : List (List ℕ)
  is : lines bytes ≡ first ∷ rest
  more : (ys : List ℕ) → lines (bytes ++ ys) ≡ first ∷ rest ++ lines ys

-- such bytes with one more byte before them, which is a line feed or not
Ends-more : (b : ℕ) (bytes : List ℕ) (t : Bool) → (b == 10) ≡ t → Ends bytes → Ends (b ∷ bytes)
Ends-more b bytes true e h =
    let cut : (ys : List ℕ) → lines (b ∷ ys) ≡ [] ∷ lines ys =
    λ ys. ap (λ t. cond t ([] ∷ lines ys) (onto_first b (lines ys))) e in
    record {
      first = [];
      rest = h.first ∷ h.rest;
      is = cut bytes ∙ ap (λ ls. [] ∷ ls) h.is;
      more = λ ys. cut (bytes ++ ys) ∙ ap (λ ls. [] ∷ ls) (h.more ys);
    }
Ends-more b bytes false e h =
    let kept : (ys : List ℕ) → lines (b ∷ ys) ≡ onto_first b (lines ys) =
    λ ys. ap (λ t. cond t ([] ∷ lines ys) (onto_first b (lines ys))) e in
    record {
      first = b ∷ h.first;
      rest = h.rest;
      is = kept bytes ∙ ap (onto_first b) h.is;
      more = λ ys. kept (bytes ++ ys) ∙ ap (onto_first b) (h.more ys);
    }

Ends-feed : (front : List ℕ) → Ends (front ++ 10 ∷ [])
Ends-feed [] = record { first = []; rest = []; is = refl; more = λ ys. refl }
Ends-feed (b ∷ front) = Ends-more b (front ++ 10 ∷ []) (b == 10) refl (Ends-feed front)

-- the lines of two texts, the first of which ends with a line feed
pub lines-append : (xs ys : List ℕ) → EndsWithFeed xs → lines (xs ++ ys) ≡ lines xs ++ lines ys
lines-append xs ys ended =
    let h = Ends-feed ended.0 in
    subst (λ l. lines (l ++ ys) ≡ lines l ++ lines ys) (sym ended.1)
    (h.more ys ∙ ap (λ l. l ++ lines ys) (sym h.is))
