-- The members that a request doesn't have: this project's profile.
use Rattle.std.specs.Prelude.{ℕ, Bool, if◌then◌else◌, List, [], ◌∷◌, Option, Some, None}
use Rattle.std.specs.Prelude.{Result, Ok, Err}
use Rattle.std.specs.List.{list_any}
use Rattle.std.specs.Str.{bytes_eq}
use Rattle.serde_json.specs.Data.{Data, Members, no_members, member}
use Rattle.serde_json.specs.Find.{as_object}
use Rattle.osn_request.specs.Member.{member_name}
use Rattle.osn_request.specs.Op.{op_of}
use Rattle.osn_request.specs.declared.member.Member.{Member}
use Rattle.osn_request.specs.declared.member.Member.TheVariants.{Op, Code, Name, Calendar, Style}
use Rattle.osn_request.specs.declared.member.Member.TheVariants.{Rule, Source, Reader, Year, Month}
use Rattle.osn_request.specs.declared.member.Member.TheVariants.{Day, Date, Weekday}
use Rattle.osn_request.specs.declared.request.op.EditOp.{EditOp}
use Rattle.osn_request.specs.declared.request.op.EditOp.TheVariants as edits
use Rattle.osn_request.specs.declared.request.op.Op.{Op as Asked}
use Rattle.osn_request.specs.declared.request.op.Op.TheVariants as ops
use Rattle.osn_request.specs.declared.request.op.QueryOp.{QueryOp}
use Rattle.osn_request.specs.declared.request.op.QueryOp.TheVariants as queries
use Rattle.osn_request.specs.declared.wire_fault.WireFault.{WireFault}

-- the members of each request
abbrev pub edit_row : EditOp → List Member
edit_row edits.AddLand = Op ∷ Code ∷ Name ∷ Calendar ∷ Style ∷ Rule ∷ Source ∷ []
edit_row edits.AddChange = Op ∷ Code ∷ Day ∷ Calendar ∷ Style ∷ Rule ∷ Source ∷ []
edit_row edits.AlterChange = Op ∷ Code ∷ Day ∷ Calendar ∷ Style ∷ Rule ∷ Source ∷ []
edit_row edits.DropChange = Op ∷ Code ∷ Day ∷ []
edit_row edits.AddException = Op ∷ Code ∷ Year ∷ Day ∷ Source ∷ []
edit_row edits.DropException = Op ∷ Code ∷ Year ∷ []

abbrev pub query_row : QueryOp → List Member
query_row queries.Read = Op ∷ Reader ∷ Code ∷ Year ∷ Month ∷ Day ∷ []
query_row queries.DayIn = Op ∷ Reader ∷ Code ∷ Day ∷ []
query_row queries.Easter = Op ∷ Reader ∷ Code ∷ Year ∷ []
query_row queries.Feasts = Op ∷ Reader ∷ Code ∷ Year ∷ []
query_row queries.YearFigures = Op ∷ Reader ∷ Year ∷ []
query_row queries.Lands = Op ∷ Reader ∷ []
query_row queries.Periods = Op ∷ Reader ∷ Code ∷ []
query_row queries.Exceptions = Op ∷ Reader ∷ Code ∷ []
query_row queries.Changes = Op ∷ Reader ∷ Code ∷ []
query_row queries.Convert = Op ∷ Reader ∷ Code ∷ Calendar ∷ Year ∷ Month ∷ Day ∷ []
query_row queries.Written = Op ∷ Reader ∷ Code ∷ Date ∷ Weekday ∷ []

abbrev pub row : Asked → List Member
row (ops.Edit op) = edit_row op
row ops.Publish = Op ∷ []
row (ops.Query op) = query_row op

-- a name is that of one of these members
abbrev pub is_member_of : List Member → List ℕ → Bool
is_member_of members name = list_any (λ m. bytes_eq name (member_name m)) members

-- the first member, in the order of their names, that a request doesn't have
abbrev pub first_unknown : Asked → Members → Option (List ℕ)
first_unknown op no_members = None
first_unknown op (member name d ms) =
    if is_member_of (row op) name then first_unknown op ms else Some name

abbrev pub unknown_by : Result Asked WireFault → Option Members → Option (List ℕ)
unknown_by (Ok op) (Some ms) = first_unknown op ms
unknown_by asked members = None

-- the first one of an object, if it asks for something
abbrev pub unknown_member : Data → Option (List ℕ)
unknown_member d = unknown_by (op_of d) (as_object d)

-- the first one of a line's object
abbrev pub unknown_in : Result Data WireFault → Option (List ℕ)
unknown_in (Ok d) = unknown_member d
unknown_in (Err f) = None
