-- The line of a text on which the table of a territory begins.
use Rattle.std.specs.Prelude.{ℕ, ◌+◌, Bool, ◌||◌, List, ◌++◌, codes, Option, option_map, nat_eq}
use Rattle.std.specs.List.{position, starts_with}
use Rattle.std.specs.Str.Lines.{lines}

-- a line begins with the header of a table, or with the key of a table in one line
abbrev pub begins_table : List ℕ → List ℕ → List ℕ → Bool
begins_table header key line = starts_with nat_eq line header || starts_with nat_eq line key

-- the first such line of a text, counted from 1
abbrev pub line_with : List ℕ → List ℕ → List ℕ → Option ℕ
line_with header key text =
    option_map (λ index. index + 1) (position (begins_table header key) (lines text))

-- the line of the table of this code: `[GB]`, or `GB = {`
abbrev pub table_line : List ℕ → List ℕ → Option ℕ
table_line code text = line_with (codes "[" ++ (code ++ codes "]")) (code ++ codes " =") text
