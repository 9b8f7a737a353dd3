-- How much of a file counts: the lines that a line feed ends, and a last one that lacks it, unless
-- that was not finished.
use Rattle.std.specs.Prelude.{◌≡◌, ◌==◌, ◌+◌, ℕ, List, length, take, count_by}
use Rattle.osn_lines.specs.LastLineFeed.{ended_length, unended_bytes}
use Rattle.osn_files.specs.LastLine.{last_line}
use Rattle.osn_files.specs.declared.last_line.LastLine.{LastLine}
use Rattle.osn_files.specs.declared.last_line.LastLine.TheVariants.{Ended, LacksFeed, Unfinished}
use Rattle.osn_files.specs.declared.whole_lines.CountedPrefix.{CountedPrefix}

-- ---- the lines that a line feed ends

-- how many there are: each line feed ends one
abbrev pub ended_count : List ℕ → ℕ
ended_count = count_by (λ b. b == 10)

-- ---- the lines that count

-- the state of the last line
abbrev pub last_line_of : List ℕ → LastLine
last_line_of input = last_line (ended_count input) (unended_bytes input)

-- a number for the lines that a line feed ends, and one for those with a last line that lacks it
abbrev pub by_last : LastLine → ℕ → ℕ → ℕ
by_last Ended whole all = whole
by_last LacksFeed whole all = all
by_last Unfinished whole all = whole

-- how many bytes the lines have that count
abbrev pub whole_length : List ℕ → ℕ
whole_length input = by_last (last_line_of input) (ended_length input) (length input)

-- the bytes of the lines that count
abbrev pub whole_bytes : List ℕ → List ℕ
whole_bytes input = take (whole_length input) input

-- how many lines count
abbrev pub whole_count : List ℕ → ℕ
whole_count input = by_last (last_line_of input) (ended_count input) (ended_count input + 1)

-- this part of this input counts, and the state of its last line is that of the part
pub record IsCountedPrefix (part : CountedPrefix) (input : List ℕ) : Type 0 where
  pub bytes : part.bytes ≡ whole_length input
  pub lines : part.lines ≡ whole_count input
  pub last : part.last ≡ last_line_of input
