-- Which codes and names a territory may have: this project's profile.
use Rattle.std.specs.Prelude.{ℕ, Bool, ◌&&◌, ◌||◌, ◌==◌, not, nat_le, List, length, slice_index}
use Rattle.std.specs.List.{list_all}
use Rattle.std.specs.Str.{is_utf8}

-- A to Z
abbrev pub is_capital : ℕ → Bool
is_capital b = nat_le 65 b && nat_le b 90

-- A to Z or 0 to 9
abbrev pub is_code_byte : ℕ → Bool
is_code_byte b = is_capital b || (nat_le 48 b && nat_le b 57)

-- none of the control bytes below 32, and not 127
abbrev pub is_name_byte : ℕ → Bool
is_name_byte b = nat_le 32 b && not (b == 127)

-- the length is from low to high
abbrev pub has_length : ℕ → ℕ → List ℕ → Bool
has_length low high bytes = nat_le low (length bytes) && nat_le (length bytes) high

-- 2 to 8 capital letters or digits, the first a letter
abbrev pub is_code : List ℕ → Bool
is_code bytes =
    has_length 2 8 bytes && (is_capital (slice_index bytes 0) && list_all is_code_byte bytes)

-- 1 to 64 bytes of UTF-8, none a control byte
abbrev pub is_name : List ℕ → Bool
is_name bytes = has_length 1 64 bytes && (list_all is_name_byte bytes && is_utf8 bytes)
