-- Bytes of ASCII are a text of UTF-8.
use Rattle.std.proofs.Common.{◌<◌, ℕ, zero, suc, List, [], ◌∷◌, arith}
use Rattle.std.specs.Str.{IsAscii, IsUtf8}
use Rattle.std.proofs.lemmas.Str.{IsUtf8-from_ascii}

-- each byte is one of ASCII
abbrev pub AreLow : List ℕ → Type 0
AreLow [] = Unit {0}
AreLow (x ∷ xs) = (x < 128) × AreLow xs

IsAscii-low : (xs : List ℕ) → AreLow xs → IsAscii xs
IsAscii-low [] h i = omega arith
IsAscii-low (x ∷ xs) h zero = h.0
IsAscii-low (x ∷ xs) h (suc i) = IsAscii-low xs h.1 i

-- bytes of ASCII are a text
pub IsUtf8-low : (xs : List ℕ) → AreLow xs → IsUtf8 xs
IsUtf8-low xs h = IsUtf8-from_ascii xs (IsAscii-low xs h)
