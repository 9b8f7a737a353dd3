-- The JSON value of a refusal or a fault with a message for people: the members of its reply
-- without one, and `message`. This project's profile.
use Rattle.std.specs.Prelude.{ℕ, List, codes}
use Rattle.serde_json.specs.Data.{Data, string, object, member, no_members}
use Rattle.osn_request.specs.FaultMessages.{fault_message, unknown_member_message}
use Rattle.osn_request.specs.RefusalMessages.{query_message, refusal_message}
use Rattle.osn_register.specs.Refusal.{refusal_number, refusal_name}
use Rattle.osn_request.specs.Json.{whole}
use Rattle.osn_request.specs.Member.{member_name}
use Rattle.osn_request.specs.WireFault.{wire_fault_number, wire_fault_name}
use Rattle.osn_request.specs.declared.wire_fault.WireFault.{WireFault}
use Rattle.osn_request.specs.declared.wire_fault.WireFault.TheVariants as faults
use Rattle.osn_service.specs.declared.outcome.Rejection.{Rejection}
use Rattle.osn_service.specs.declared.outcome.Rejection.TheVariants.{Change, Line, Member, Query}

-- a refusal or a fault by its number, its message and its name
abbrev pub message_data : ℕ → List ℕ → List ℕ → Data
message_data n message name = object (
    member (codes "fault") (whole n)
    (member (codes "message") (string message)
    (member (codes "name") (string name)
    no_members)))

abbrev pub fault_message_data : WireFault → Data
fault_message_data (faults.BadField m) = object (
    member (codes "fault") (whole 34)
    (member (codes "field") (string (member_name m))
    (member (codes "message") (string (fault_message (faults.BadField m)))
    (member (codes "name") (string (codes "BadField"))
    no_members))))
fault_message_data f = message_data (wire_fault_number f) (fault_message f) (wire_fault_name f)

abbrev pub rejection_data : Rejection → Data
rejection_data (Change f) = message_data (refusal_number f) (refusal_message f) (refusal_name f)
rejection_data (Line f) = fault_message_data f
rejection_data (Member name) = object (
    member (codes "fault") (whole 34)
    (member (codes "field") (string name)
    (member (codes "message") (string unknown_member_message)
    (member (codes "name") (string (codes "BadField"))
    no_members))))
rejection_data (Query reader edition f) = object (
    member (codes "edition") (whole edition)
    (member (codes "fault") (whole (refusal_number f))
    (member (codes "message") (string (query_message f))
    (member (codes "name") (string (refusal_name f))
    (member (codes "reader") (whole reader)
    no_members)))))
