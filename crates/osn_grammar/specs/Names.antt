-- Which part a name is, by the table of names.
use Rattle.std.specs.Prelude.{◌≡◌, ℕ, Bool, true, false, not, ◌&&◌, if◌then◌else◌, List, [], ◌∷◌}
use Rattle.std.specs.Prelude.{map}
use Rattle.std.specs.Prelude.{Option, Some, None}
use Rattle.std.specs.Borrow.{Bor}
use Rattle.std.specs.List.{list_any}
use Rattle.std.specs.Str.{bytes_eq}
use Rattle.osn_grammar.specs.declared.feast_names.TheConstants.{FEAST_NAMES}
use Rattle.osn_grammar.specs.declared.more_names.TheConstants.{MORE_NAMES}
use Rattle.osn_grammar.specs.declared.names.TheConstants.{NAMES}
use Rattle.osn_grammar.specs.declared.other_names.TheConstants.{OTHER_NAMES}
use Rattle.osn_grammar.specs.declared.token.Token.{Token}

-- the part of the first such name
abbrev pub first_named : List (List ℕ × Token) → List ℕ → Option Token
first_named [] word = None
first_named (entry ∷ rest) word =
    if bytes_eq entry.0 word then Some entry.1 else first_named rest word

-- names with what they point to
abbrev pub plain : List (Bor (List ℕ) × Token) → List (List ℕ × Token)
plain = map (λ e. (e.0.now, e.1))

-- the usual names, each with its part
unfoldable pub names : List (List ℕ × Token)
names = map (λ e. (e.0.now, e.1)) NAMES

-- the other names
unfoldable pub other_names : List (List ℕ × Token)
other_names = map (λ e. (e.0.now, e.1)) OTHER_NAMES

-- the names of earlier hands and of genealogists
unfoldable pub more_names : List (List ℕ × Token)
more_names = map (λ e. (e.0.now, e.1)) MORE_NAMES

-- the names of feasts
unfoldable pub feast_names : List (List ℕ × Token)
feast_names = map (λ e. (e.0.now, e.1)) FEAST_NAMES

abbrev pub named_or : Option Token → Option Token → Option Token
named_or (Some p) other = Some p
named_or None other = other

abbrev pub more_or_feast : List ℕ → Option Token
more_or_feast word = named_or (first_named more_names word) (first_named feast_names word)

abbrev pub other_or_feast : List ℕ → Option Token
other_or_feast word = named_or (first_named other_names word) (more_or_feast word)

-- the part that a name in small letters is
abbrev pub token_named : List ℕ → Option Token
token_named word = named_or (first_named names word) (other_or_feast word)

-- the list has the name
abbrev pub is_listed : List (List ℕ × Token) → List ℕ × Token → Bool
is_listed entries entry = list_any (λ (other : List ℕ × Token). bytes_eq other.0 entry.0) entries

-- no name is listed twice
abbrev pub are_distinct : List (List ℕ × Token) → Bool
are_distinct [] = true
are_distinct (entry ∷ rest) = not (is_listed rest entry) && are_distinct rest

-- as a law: no name is listed twice, so no name is that of two months, or of a month and a weekday
unfoldable pub AreNamesDistinct : Type 0
AreNamesDistinct =
    (are_distinct names ≡ true) × (are_distinct other_names ≡ true)
    × (are_distinct more_names ≡ true)
    × (are_distinct feast_names ≡ true)
    × (list_any (is_listed names) other_names ≡ false)
    × (list_any (is_listed names) more_names ≡ false)
    × (list_any (is_listed names) feast_names ≡ false)
    × (list_any (is_listed other_names) more_names ≡ false)
    × (list_any (is_listed other_names) feast_names ≡ false)
    × (list_any (is_listed more_names) feast_names ≡ false)
