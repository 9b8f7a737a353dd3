-- The object that members in the order of a line are, each put at its name: this project's profile.
use Rattle.std.specs.Prelude.{ℕ, List, fold}
use Rattle.std.specs.Borrow.{Bor}
use Rattle.serde_json.specs.Data.{Data, number, string, Members, no_members, put}
use Rattle.serde_json.specs.Find.{of_integer}
use Rattle.osn_request.specs.declared.request.flat.Scalar.{Scalar}
use Rattle.osn_request.specs.declared.request.flat.Scalar.TheVariants.{Text, Whole}
use Rattle.osn_request.specs.declared.request.flat.FlatObject.{FlatObject}

abbrev pub scalar_data : Scalar → Data
scalar_data (Text s) = string s.now
scalar_data (Whole z) = number (of_integer z)

abbrev pub with_member : Members → Bor (List ℕ) × Scalar → Members
with_member ms m = put m.0.now (scalar_data m.1) ms

abbrev pub put_all : List (Bor (List ℕ) × Scalar) → Members
put_all = fold with_member no_members

abbrev pub flat_members : FlatObject → Members
flat_members f = put_all f.members.items
