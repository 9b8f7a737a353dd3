-- The name that is nearest to a mistyped word.
use Rattle.std.specs.Prelude.{ℕ, List, find, Option, Some, None}
use Rattle.osn_lines.specs.Near.{is_near}

-- the first of two, if there is one
abbrev pub first_or : {A : Type 0} → Option A → Option A → Option A
first_or (Some found) other = Some found
first_or None other = other

-- the first that is one step away, or else the first that is two steps away
abbrev pub nearest_other : List (List ℕ) → List ℕ → Option (List ℕ)
nearest_other names word =
    first_or (find (is_near 1 word) names) (find (is_near 2 word) names)

-- the nearest of these: the one that differs in capital and small letters alone, or else one of
-- those
abbrev pub nearest_of : List (List ℕ) → List ℕ → Option (List ℕ)
nearest_of names word = first_or (find (is_near 0 word) names) (nearest_other names word)
