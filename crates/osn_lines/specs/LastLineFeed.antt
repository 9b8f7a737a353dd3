-- How much of some bytes is of lines that have ended: all up to the last line feed.
use Rattle.std.specs.Prelude.{◌==◌, ℕ, zero, suc, List, [], ◌∷◌, take, drop, if◌then◌else◌}

-- a byte before this many bytes of such lines: it is one of them, but if there are none it must be
-- a line feed
abbrev pub with_byte : ℕ → ℕ → ℕ
with_byte b zero = if b == 10 then 1 else 0
with_byte b (suc n) = suc (suc n)

-- how many bytes they have
abbrev pub ended_length : List ℕ → ℕ
ended_length [] = 0
ended_length (b ∷ bs) = with_byte b (ended_length bs)

-- the bytes up to the last line feed
abbrev pub ended_bytes : List ℕ → List ℕ
ended_bytes bytes = take (ended_length bytes) bytes

-- the bytes after the last line feed
abbrev pub unended_bytes : List ℕ → List ℕ
unended_bytes bytes = drop (ended_length bytes) bytes
