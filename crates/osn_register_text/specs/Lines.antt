-- The line and the column of a place in a text, and the fault of a text that is not TOML.
use Rattle.std.specs.Prelude.{◌≡◌, ℕ, ◌+◌, ◌==◌, nat_lt, nat_le, Bool, not, ◌||◌, List, take}
use Rattle.std.specs.Prelude.{reverse, count_by, take_while}
use Rattle.toml.specs.declared.de.error.Error.{Error}
use Rattle.toml.specs.Errors.{IsMemory, span_start}
use Rattle.osn_register_text.specs.declared.fault.TextFault.{TextFault}
use Rattle.osn_register_text.specs.declared.fault.TextFault.TheVariants as faults

-- the line of the place after these bytes, counted from 1
abbrev pub line_after : List ℕ → ℕ
line_after before = count_by (λ b. b == 10) before + 1

-- a character of a text begins with the byte
abbrev pub begins_character : ℕ → Bool
begins_character b = nat_lt b 128 || nat_le 192 b

-- the column of the place after these bytes, counted from 1 in characters
abbrev pub column_after : List ℕ → ℕ
column_after before =
    count_by begins_character (take_while (λ b. not (b == 10)) (reverse before)) + 1

-- the fault of a text that is not TOML, from the error of `toml`: its place, unless memory ran out
abbrev pub IsFaultBy : List ℕ → Error → TextFault → Type 0
IsFaultBy text e (faults.Toml f) =
    (¬ IsMemory e) × (f.line ≡ line_after (take (span_start e) text))
    × (f.column ≡ column_after (take (span_start e) text))
IsFaultBy text e (faults.Key f) = ⊥
IsFaultBy text e faults.NoMemory = Unit {0}
