-- The line that cites a source. This project's profile.
use Rattle.std.specs.Prelude.{ℕ, List, [], ◌++◌, Option, Some, None, codes}

-- a source: (source: Calendar (New Style) Act 1750)
unfoldable pub source_line : List ℕ → List ℕ
source_line source = codes "(source: " ++ (source ++ codes ")\n")

-- the line that cites a source, if one is given
abbrev pub source_text : Option (List ℕ) → List ℕ
source_text None = []
source_text (Some source) = source_line source
