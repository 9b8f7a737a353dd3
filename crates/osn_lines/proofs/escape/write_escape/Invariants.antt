use Rattle.std.proofs.Common.{◌≡◌, ℕ, List, ◌++◌, ◌≤◌, flat_map}
use Rattle.std.specs.Char.{encode_utf8}
use Rattle.std.specs.Char.Escape.{escape_default}
use Rattle.std.specs.Char.Iter.{escape_rest, escape_end}
use Rattle.std.specs.Fmt.{HasWritten, IsPlainFormatter}
use Rattle.osn_lines.proofs.escape.write_escape.Given as goal

-- what is written and what is left to write are all of it
abbrev pub invariant-loop-part : goal.invariant-loop-part
invariant-loop-part g l =
    (escape_end l.part-iterator ≤ 10)
    × (IsPlainFormatter l.initial.f
    → (done : List ℕ) × HasWritten g.W.Write.write_str_gives l.initial.f done l.f
    × (done ++ flat_map encode_utf8 (escape_rest l.part-iterator)
    ≡ flat_map encode_utf8 (escape_default l.fn.c)))
