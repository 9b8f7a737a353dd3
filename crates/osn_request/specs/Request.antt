-- What a line requests, or its first fault in the order of the tests: this project's profile, over
-- the value that `serde_json` reads.
use Rattle.std.specs.Prelude.{◌≡◌, ℕ, ◌<◌, ◌≤◌, nat_lt, if◌then◌else◌, IsTrue, List, length}
use Rattle.std.specs.Prelude.{is_some, Option, Some, None, Result, Ok, Err, is_ok}
use Rattle.std.specs.Str.{is_utf8, IsUtf8}
use Rattle.serde_json.specs.Data.{Data}
use Rattle.serde_json.specs.Read.{read}
use Rattle.serde_json.specs.Find.{as_object}
use Rattle.osn_lines.specs.Lines.{longest_line}
use Rattle.osn_request.specs.declared.version.Version.{Version}
use Rattle.osn_request.specs.declared.wire_fault.WireFault.{WireFault}
use Rattle.osn_request.specs.declared.wire_fault.WireFault.TheVariants.{LineTooLong, NotJson}
use Rattle.osn_request.specs.declared.wire_fault.WireFault.TheVariants.{NotObject}
use Rattle.osn_request.specs.declared.request.op.Op.{Op}
use Rattle.osn_request.specs.declared.request.op.Op.TheVariants as ops
use Rattle.osn_request.specs.declared.request.Request.{Request}
use Rattle.osn_request.specs.declared.request.Request.TheVariants.{Stage, Publish, Ask}
use Rattle.osn_request.specs.declared.request.RequestError.{RequestError}
use Rattle.osn_request.specs.declared.request.RequestError.TheVariants as errors
use Rattle.osn_request.specs.Field.{◌>>=◌, or_fault}
use Rattle.osn_request.specs.Op.{op_of}
use Rattle.osn_request.specs.EditRequest.{edit_of}
use Rattle.osn_request.specs.QueryRequest.{query_of}

-- the value of a line of UTF-8 that is JSON
abbrev pub value_of : List ℕ → Option Data
value_of line = if is_utf8 line then read line else None

-- a line with no value is not JSON
abbrev pub no_value : Option Data → Result Data WireFault
no_value value = or_fault NotJson value

-- a value that is an object
abbrev pub object_in : Option Data → Result Data WireFault
object_in None = Err NotJson
object_in (Some d) = if is_some (as_object d) then Ok d else Err NotObject

-- the object of a line
abbrev pub object_of : List ℕ → Result Data WireFault
object_of line =
    if nat_lt longest_line (length line) then Err LineTooLong else object_in (value_of line)

-- the request of an object that asks for this, by the rules of a version
abbrev pub request_by : Version → ℕ → Data → Op → Result Request WireFault
request_by v readers d (ops.Edit op) = edit_of v op d >>= λ e. Ok (Stage e)
request_by v readers d ops.Publish = Ok Publish
request_by v readers d (ops.Query op) = query_of readers op d >>= λ asked. Ok (Ask asked.0 asked.1)

-- the request of an object
abbrev pub request_of : Version → ℕ → Data → Result Request WireFault
request_of v readers d = op_of d >>= request_by v readers d

-- the request of a line, with this many readers
abbrev pub request : Version → ℕ → List ℕ → Result Request WireFault
request v readers line = object_of line >>= request_of v readers

-- a line that is a text, not an empty one and not too long
abbrev pub IsReadable : List ℕ → Type 0
IsReadable line = (length line ≤ longest_line) × IsUtf8 line × (0 < length line)

-- a fault is the given one; NoMemory says nothing
abbrev pub Fails : {A : Type 0} → RequestError → Result A WireFault → Type 0
Fails errors.NoMemory said = Unit {0}
Fails (errors.Fault f) said = said ≡ Err f

-- the result is the given one, unless memory ran out
abbrev pub Gives : {A : Type 0} → Result A RequestError → Result A WireFault → Type 0
Gives (Ok x) said = said ≡ Ok x
Gives (Err e) said = Fails e said

-- a fault is the given one, and memory runs out only if there is no fault
abbrev pub FailsLast : {A : Type 0} → RequestError → Result A WireFault → Type 0
FailsLast errors.NoMemory said = IsTrue (is_ok said)
FailsLast (errors.Fault f) said = said ≡ Err f

abbrev pub GivesLast : {A : Type 0} → Result A RequestError → Result A WireFault → Type 0
GivesLast (Ok x) said = said ≡ Ok x
GivesLast (Err e) said = FailsLast e said
