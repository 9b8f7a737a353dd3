-- The members of an object that a request doesn't have, as the entries of its map.
use Rattle.std.proofs.Common.{◌≡◌, ℕ, if◌then◌else◌, List, [], ◌∷◌, Option, Some, None}
use Rattle.std.proofs.Common.{String, Global, string_bytes, refl, ap}
use Rattle.std.specs.Map.{keys_of}
use Rattle.serde_json.specs.View.{members_view}
use Rattle.serde_json.specs.declared.value.Value.{Value}
use Rattle.osn_request.specs.declared.request.op.Op.{Op}
use Rattle.osn_request.specs.Unknown.{first_unknown, is_member_of, row}

-- the first of some names that is not a member's
abbrev pub unknown_among : Op → List (String Global) → Option (List ℕ)
unknown_among op [] = None
unknown_among op (k ∷ ks) =
    if is_member_of (row op) (string_bytes k) then unknown_among op ks else Some (string_bytes k)

-- the first unknown member is that of the names
pub first_unknown-keys : (op : Op) (es : List (String Global × Value))
    → first_unknown op (members_view es) ≡ unknown_among op (keys_of es)
first_unknown-keys op [] = refl
first_unknown-keys op (e ∷ es) =
    ap (λ rest. if is_member_of (row op) (string_bytes e.0) then rest
    else Some (string_bytes e.0))
    (first_unknown-keys op es)
