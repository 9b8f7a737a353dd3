-- What holds between two reads, inside the loop over lines.
use Rattle.std.specs.Prelude.{◌≡◌, ◌<◌, ◌≤◌, ℕ, ◌+◌, List, [], ◌∷◌, ◌++◌, ◌==◌, Bool, true, false}
use Rattle.std.specs.Prelude.{length, Option, Some}
use Rattle.osn_lines.specs.declared.unended_line.UnendedLine.{UnendedLine}
use Rattle.osn_lines.specs.Lines.{lines, longest_line}
use Rattle.osn_lines.specs.Takers.{Takes}

-- no byte is a line feed
abbrev pub HasNoFeed : List ℕ → Type 0
HasNoFeed [] = Unit {0}
HasNoFeed (b ∷ bs) = ((b == 10) ≡ false) × HasNoFeed bs

-- these bytes begin with the lines `done`, whatever comes after them, and `left` is the beginning
-- of the next line
pub record Cuts (bytes : List ℕ) (done : List (List ℕ)) (left : List ℕ) : Type 0 where
  pub whole : (more : List ℕ) → lines (bytes ++ more) ≡ done ++ lines (left ++ more)

-- these bytes are all of the line, unless it is too long: then no more than the longest are kept
abbrev pub HoldsBytes : Bool → List ℕ → List ℕ → Type 0
HoldsBytes false bytes line = (bytes ≡ line) × (length line ≤ longest_line)
HoldsBytes true bytes line = (longest_line < length line) × (length bytes ≤ longest_line)

-- the beginning of a line, or that it is too long
abbrev pub Holds : UnendedLine → List ℕ → Type 0
Holds partial_line line = HoldsBytes partial_line.is_too_long partial_line.bytes.items line

-- this is the beginning of a line that hasn't ended yet
abbrev pub IsUnended : UnendedLine → List ℕ → Type 0
IsUnended partial_line line = Holds partial_line line × HasNoFeed line

-- of these bytes lines were taken, which made n lines into m, and Left holds of the bytes that are
-- left
pub record IsTaken {S : Type 0} (after : S → List (List ℕ) → S → Type 0) (s t : S) (bytes : List ℕ)
    (n m : ℕ) (Left : List ℕ → Type 0) : Type 0 where
  pub lines_taken : List (List ℕ)
  pub left : List ℕ
  pub cuts : Cuts bytes lines_taken left
  pub takes : Takes after s t lines_taken
  pub count : m ≡ n + length lines_taken
  pub rest : Left left

-- of these bytes lines were taken, which made n lines into m, and the taker stopped at the next
pub record IsStopped {S W : Type 0} (after : S → List (List ℕ) → S → Type 0)
    (stopped : S → List (List ℕ) → Option (List ℕ) → S → W → Type 0) (s t : S) (bytes : List ℕ)
    (n m : ℕ) (why : W) : Type 0 where
  pub lines_taken : List (List ℕ)
  pub line : List ℕ
  pub left : List ℕ
  pub cuts : Cuts bytes (lines_taken ++ line ∷ []) left
  pub stops : (initial : S) (before : List (List ℕ)) → after initial before s →
      stopped initial (before ++ lines_taken) (Some line) t why
  pub count : m ≡ n + length lines_taken
