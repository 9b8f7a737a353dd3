-- The state of a file's last line: whether its line feed is there, or it was not finished. This
-- project's profile.
use Rattle.std.specs.Prelude.{◌&&◌, ℕ, zero, suc, Bool, false, List, [], ◌∷◌, length, nat_eq}
use Rattle.std.specs.Prelude.{nat_lt, not, is_some, if◌then◌else◌}
use Rattle.std.specs.List.{starts_with}
use Rattle.osn_lines.specs.Lines.{longest_line}
use Rattle.osn_request.specs.Request.{value_of}
use Rattle.osn_request.specs.Version.{plain_version}
use Rattle.osn_files.specs.JournalText.{line_text}
use Rattle.osn_files.specs.Version.{head_data}
use Rattle.osn_files.specs.declared.last_line.LastLine.{LastLine}
use Rattle.osn_files.specs.declared.last_line.LastLine.TheVariants.{Ended, LacksFeed, Unfinished}

-- a line that is not JSON text; a line that is too long does not count as one
abbrev pub is_no_json : List ℕ → Bool
is_no_json line = if nat_lt longest_line (length line) then false else not (is_some (value_of line))

-- Whether bytes after this many lines, and with no line feed after them, were not finished: they
-- are not JSON text. In place of the first line they are also a prefix of the head of a new
-- journal. So a file that is not a journal has no such line.
abbrev pub is_unfinished : ℕ → List ℕ → Bool
is_unfinished zero bytes =
    is_no_json bytes && starts_with nat_eq (line_text (head_data plain_version)) bytes
is_unfinished (suc n) bytes = is_no_json bytes

-- the state of the last line, by the number of line feeds and the bytes after the last one
abbrev pub last_line : ℕ → List ℕ → LastLine
last_line n [] = Ended
last_line n (b ∷ bs) = if is_unfinished n (b ∷ bs) then Unfinished else LacksFeed
