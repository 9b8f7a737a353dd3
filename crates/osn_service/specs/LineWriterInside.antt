-- A line that is being written: what the vector held before it, and its text so far.
use Rattle.std.specs.Prelude.{ℕ, ◌≤◌, List, length, take, drop}
use Rattle.std.specs.Str.{IsUtf8}
use Rattle.osn_service.specs.declared.line_writer.LineWriter.TheInside.{Inside}

pub record Line : Type 0 where
  pub before : List ℕ
  pub text : List ℕ

abbrev pub line_in : Inside → Line
line_in w = record { before = take w.start w.bytes.items; text = drop w.start w.bytes.items }

-- the text follows the bytes before it, and is UTF-8
pub record IsLine (w : Inside) : Type 0 where
  pub within : w.start ≤ length w.bytes.items
  pub utf8 : IsUtf8 (drop w.start w.bytes.items)
