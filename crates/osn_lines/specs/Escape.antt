-- How a message prints a text of a user: on one line, and so that a terminal shows all of it. This
-- project's profile.
use Rattle.std.specs.Prelude.{ℕ, Bool, ◌||◌, ◌==◌, nat_le, nat_lt, ◌&&◌}
use Rattle.std.specs.Prelude.{if◌then◌else◌, List}
use Rattle.std.specs.Char.Escape.{escape_default}
use Rattle.std.specs.Char.{encode_utf8}
use Rattle.std.specs.List.{flat_map}
use Rattle.std.specs.Str.{chars}

-- a character on which a terminal acts: of control, of the direction of writing, or one that ends a
-- line
abbrev pub is_escaped : ℕ → Bool
is_escaped c = nat_lt c 0x20 || ((nat_le 0x7f c && nat_lt c 0xa0) || (c == 0x61c
    || ((nat_le 0x200e c && nat_lt c 0x2010) || ((nat_le 0x2028 c && nat_lt c 0x202f)
    || (nat_le 0x2066 c && nat_lt c 0x206a)))))

-- a character as Rust's escape_default writes it: \u{1b}
abbrev pub escape_text : ℕ → List ℕ
escape_text c = flat_map encode_utf8 (escape_default c)

abbrev pub escaped_char : ℕ → List ℕ
escaped_char c = if is_escaped c then escape_text c else encode_utf8 c

-- a text with these characters escaped
unfoldable pub escaped_text : List ℕ → List ℕ
escaped_text text = flat_map escaped_char (chars text)
