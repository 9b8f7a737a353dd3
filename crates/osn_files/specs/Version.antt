-- The head of a journal or a script, which says its version: this project's profile.
use Rattle.std.specs.Prelude.{List, ℕ, Option, option_and_then, Result}
use Rattle.serde_json.specs.Data.{Data, object, member, no_members}
use Rattle.serde_json.specs.Find.{get, as_number, as_i64}
use Rattle.osn_request.specs.declared.member.Member.TheVariants as members
use Rattle.osn_request.specs.declared.wire_fault.WireFault.{WireFault}
use Rattle.osn_request.specs.declared.wire_fault.WireFault.TheVariants.{BadHead}
use Rattle.osn_request.specs.Field.{◌>>=◌, or_fault}
use Rattle.osn_request.specs.Member.{member_name}
use Rattle.osn_request.specs.Request.{object_of}
use Rattle.osn_request.specs.Json.{whole}
use Rattle.osn_request.specs.Version.{version_number, version_numbered}
use Rattle.osn_request.specs.declared.version.Version.{Version}

-- the version that the object of a head says
abbrev pub version_in : Data → Option Version
version_in d =
    option_and_then version_numbered
    (option_and_then as_i64 (option_and_then as_number (get (member_name members.Journal) d)))

-- the version of a head
abbrev pub version_of : List ℕ → Result Version WireFault
version_of line = object_of line >>= λ d. or_fault BadHead (version_in d)

-- the head that says a version
abbrev pub head_data : Version → Data
head_data version =
    object (member (member_name members.Journal) (whole (version_number version)) no_members)
