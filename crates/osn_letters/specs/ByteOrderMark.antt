-- A byte order mark at the beginning of a text, byte by byte.
use Rattle.std.specs.Prelude.{ℕ, ◌==◌, if◌then◌else◌, List, [], ◌∷◌, Option, Some, None}
use Rattle.csv.specs.Reading.{strip_bom}
use Rattle.osn_letters.specs.declared.start.ByteOrderMark.{ByteOrderMark}
use Rattle.osn_letters.specs.declared.start.ByteOrderMark.TheVariants.{Nothing, OneByte, TwoBytes}
use Rattle.osn_letters.specs.declared.start.ByteOrderMark.TheVariants.{Past}

-- the bytes that are held back
abbrev pub held : ByteOrderMark → List ℕ
held Nothing = []
held OneByte = 0xEF ∷ []
held TwoBytes = 0xEF ∷ 0xBB ∷ []
held Past = []

-- the text that comes of more bytes
abbrev pub unmarked : ByteOrderMark → List ℕ → List ℕ
unmarked Nothing bytes = strip_bom bytes
unmarked OneByte bytes = strip_bom (0xEF ∷ bytes)
unmarked TwoBytes bytes = strip_bom (0xEF ∷ 0xBB ∷ bytes)
unmarked Past bytes = bytes

-- after the next byte of a mark
abbrev pub next_start : ByteOrderMark → ℕ → Option ByteOrderMark
next_start Nothing b = if b == 0xEF then Some OneByte else None
next_start OneByte b = if b == 0xBB then Some TwoBytes else None
next_start TwoBytes b = if b == 0xBF then Some Past else None
next_start Past b = None
