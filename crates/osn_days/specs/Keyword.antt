-- What a word means, of some words with their meanings.
use Rattle.std.specs.Prelude.{ℕ, if◌then◌else◌, List, [], ◌∷◌, map, Option, Some, None}
use Rattle.std.specs.Str.{bytes_eq}

-- of words with what each means, what a word means
abbrev pub meaning : {X : Type 0} → List (List ℕ × X) → List ℕ → Option X
meaning [] word = None
meaning (m ∷ ms) word = if bytes_eq word m.0 then Some m.1 else meaning ms word

-- of some values, the one that is written by a word
abbrev pub written_by : {X : Type 0} → (X → List ℕ) → List X → List ℕ → Option X
written_by word_of xs = meaning (map (λ x. (word_of x, x)) xs)
