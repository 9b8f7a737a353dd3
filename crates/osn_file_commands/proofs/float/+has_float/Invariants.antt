use Rattle.std.proofs.Common.{◌≡◌, drop, map}
use Rattle.serde_json.specs.View.{view, items_of, members_view}
use Rattle.serde_json.specs.Written as spec
use Rattle.osn_file_commands.proofs.float.+has_float.Given as goal

-- none so far has a float, so those that are left have one if any has
abbrev pub invariant-items_have_float-loop-item : goal.invariant-items_have_float-loop-item
invariant-items_have_float-loop-item l =
    spec.items_have_float (items_of (map view (drop l.item-index l.item-items)))
    ≡ spec.items_have_float (items_of (map view l.item-items))

abbrev pub invariant-members_have_float-loop-member :
    goal.invariant-members_have_float-loop-member
invariant-members_have_float-loop-member l =
    spec.members_have_float (members_view l.member-iterator)
    ≡ spec.members_have_float (members_view l.members.entries)
