-- What is written of a source after another member.
use Rattle.std.specs.Prelude.{ℕ, List, [], ◌++◌, codes, Option, Some, None}
use Rattle.json.specs.Print.{quoted}

-- the text of a source's member, empty without a source
abbrev pub source_text : Option (List ℕ) → List ℕ
source_text None = []
source_text (Some source) = codes ",\"source\":" ++ quoted source
