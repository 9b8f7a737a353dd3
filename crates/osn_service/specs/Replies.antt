-- The replies to lines, for what answers each by a text and is then another.
use Rattle.std.specs.Prelude.{ℕ, List, [], ◌∷◌, ◌++◌}

-- the replies to the lines in order, one after another
abbrev pub replies : {S : Type 0} → (S → List ℕ → List ℕ) → (S → List ℕ → S) → S → List (List ℕ) →
    List ℕ
replies text after s [] = []
replies text after s (line ∷ rest) = text s line ++ replies text after (after s line) rest
