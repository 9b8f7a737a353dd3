-- How values are written as JSON: the tokens of each, one after another.
use Rattle.std.specs.Prelude.{ℕ, ℤ, List, ◌∷◌, Option, None, Some, codes}
use Rattle.json.specs.Token.{Token, key}
use Rattle.json.specs.Tree.{json_tokens}
use Rattle.serde_json.specs.Data.{Data, number, unsigned, array, string, Members, member}
use Rattle.serde_json.specs.Find.{of_integer}
use Rattle.serde_json.specs.View.{items_of}
use Rattle.serde_json.specs.Written.{outline}

abbrev pub whole : ℕ → Data
whole n = number (unsigned n)

abbrev pub signed : ℤ → Data
signed n = number (of_integer n)

abbrev pub list_data : List Data → Data
list_data ds = array (items_of ds)

-- the tokens of a value
abbrev pub value_tokens : Data → List Token
value_tokens d = json_tokens (outline d)

-- the tokens of a member of an object
abbrev pub member_tokens : List ℕ → Data → List Token
member_tokens name d = key name ∷ value_tokens d

-- members, and before them that of a source if one is given
abbrev pub source_member : Option (List ℕ) → Members → Members
source_member None ms = ms
source_member (Some source) ms = member (codes "source") (string source) ms
