-- How far a name is from a word, and which name is near it.
use Rattle.std.specs.Prelude.{ℕ, ◌/◌, Bool, nat_le, min, List, length}
use Rattle.std.specs.Str.{chars, str_to_ascii_lowercase}
use Rattle.strsim.specs.Edits.{osa_table}

-- the edit distance of Damerau and Levenshtein between two lists of letters
abbrev pub edits : List ℕ → List ℕ → ℕ
edits word name = (osa_table word name).last_row (length name)

-- the edit distance of a word and a name, capital and small letters being the same
abbrev pub distance : List ℕ → List ℕ → ℕ
distance word name =
    edits (chars (str_to_ascii_lowercase word)) (chars (str_to_ascii_lowercase name))

-- how far from a word a name may be
abbrev pub reach : List ℕ → ℕ
reach word = min (length word / 3) 2

-- the name is at most as far as that, and at most as far as `most`
abbrev pub is_near : ℕ → List ℕ → List ℕ → Bool
is_near most word name = nat_le (distance word name) (min most (reach word))
