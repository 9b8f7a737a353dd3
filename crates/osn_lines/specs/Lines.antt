-- How bytes are cut into lines (this project's profile): at each line feed, and the bytes after the
-- last one are a line if there are any.
use Rattle.std.specs.Prelude.{◌≡◌, ◌<◌, ◌≤◌, ℕ, List, [], ◌∷◌, ◌++◌, ◌==◌, if◌then◌else◌, length}
use Rattle.osn_lines.specs.declared.line.Line.{Line}
use Rattle.osn_lines.specs.declared.line.Line.TheVariants.{Whole, TooLong}

-- a byte put before the first line
abbrev pub onto_first : ℕ → List (List ℕ) → List (List ℕ)
onto_first b [] = (b ∷ []) ∷ []
onto_first b (line ∷ rest) = (b ∷ line) ∷ rest

-- the lines of all the bytes, without their line feeds
abbrev pub lines : List ℕ → List (List ℕ)
lines [] = []
lines (b ∷ bs) = if b == 10 then [] ∷ lines bs else onto_first b (lines bs)

-- the last byte is a line feed
abbrev pub EndsWithFeed : List ℕ → Type 0
EndsWithFeed text = (front : List ℕ) × (text ≡ front ++ 10 ∷ [])

-- the most bytes of a line, without its line feed
abbrev pub longest_line : ℕ
longest_line = 65536

-- what is given of a line: all of it, or that it is longer than the longest
abbrev pub IsLine : Line → List ℕ → Type 0
IsLine (Whole bytes) line = (bytes.now ≡ line) × (length line ≤ longest_line)
IsLine TooLong line = longest_line < length line
