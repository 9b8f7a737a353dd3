use Rattle.std.proofs.Common.{◌≡◌, ℕ, List, ◌++◌, IsUtf8, chars, flat_map}
use Rattle.std.specs.Fmt.{HasWritten, IsPlainFormatter}
use Rattle.std.specs.Str.Iter.{chars_rest}
use Rattle.osn_lines.specs.Escape.{escaped_char}
use Rattle.osn_lines.proofs.escape.EscapedTextDisplay.fmt.Given as goal

-- what is written and what is left to write are all of it
abbrev pub invariant-loop-c : goal.invariant-loop-c
invariant-loop-c g l =
    IsUtf8 (chars_rest l.c-iterator)
    × (IsPlainFormatter l.initial.f
    → (done : List ℕ) × HasWritten g.W.Write.write_str_gives l.initial.f done l.f
    × (done ++ flat_map escaped_char (chars (chars_rest l.c-iterator))
    ≡ flat_map escaped_char (chars l.fn.self.0.now)))
