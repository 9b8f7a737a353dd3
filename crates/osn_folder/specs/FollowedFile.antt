-- What is read of a file that is followed.
use Rattle.std.specs.Prelude.{◌≡◌, ℕ, List, length}
use Rattle.osn_lines.specs.LastLineFeed.{ended_length}

-- the bytes are of lines that have ended, all of them
abbrev pub IsOfWholeLines : List ℕ → Type 0
IsOfWholeLines bytes = ended_length bytes ≡ length bytes
