use Rattle.std.proofs.Common.{◌≡◌}
use Rattle.serde_json.specs.View.{members_view}
use Rattle.osn_request.specs.Unknown.{first_unknown}
use Rattle.osn_request.proofs.UnknownLemmas.{unknown_among}
use Rattle.osn_request.proofs.request.unknown.first_unknown.Given as goal

-- The first unknown member of all is the first one of those that are left.
abbrev pub invariant-loop-name : goal.invariant-loop-name
invariant-loop-name l =
    first_unknown l.op (members_view l.members.entries) ≡ unknown_among l.op l.name-iterator
