-- Which column of a header a name may be meant for. This project's profile.
use Rattle.std.specs.Prelude.{ℕ, List, Option, map, find}
use Rattle.std.specs.Option.{option_or}
use Rattle.std.specs.Str.Lossy.{utf8_lossy}
use Rattle.osn_lines.specs.Near.{is_near}
use Rattle.osn_letters.specs.RowFields.{trimmed}

-- a field of a header as a text, without the white space around it
abbrev pub name_text : List ℕ → List ℕ
name_text field = utf8_lossy (trimmed field)

-- the name of the nearest column: the first that is one step away, or else the first that is two
-- steps away
abbrev pub nearest_column : List ℕ → List (List ℕ) → Option (List ℕ)
nearest_column name header =
    option_or (find (is_near 1 name) (map name_text header))
    (find (is_near 2 name) (map name_text header))
