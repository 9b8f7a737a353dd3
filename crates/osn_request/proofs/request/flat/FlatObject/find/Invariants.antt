use Rattle.std.proofs.Common.{◌≡◌, ◌≤◌, length, take}
use Rattle.serde_json.specs.Find.{get_member}
use Rattle.osn_request.specs.Flat.{flat_members, put_all}
use Rattle.osn_request.proofs.request.flat.FlatObject.find.Given as goal

-- The members after this place have another name.
abbrev pub invariant-loop-before : goal.invariant-loop-before
invariant-loop-before l =
    (l.before ≤ length l.fn.self.members.items)
    × (get_member l.fn.name (flat_members l.fn.self)
    ≡ get_member l.fn.name (put_all (take l.before l.fn.self.members.items)))

abbrev pub decreases-loop-before : goal.decreases-loop-before
decreases-loop-before l = l.before
