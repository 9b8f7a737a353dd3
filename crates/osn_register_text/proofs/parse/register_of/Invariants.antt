use Rattle.std.proofs.Common.{◌≡◌, [], drop}
use Rattle.osn_register_text.specs.Text.{territories_after_all}
use Rattle.osn_register_text.proofs.parse.register_of.Given as goal

-- The edits that are left, on the register so far, are all edits on the empty one.
abbrev pub invariant-loop-part : goal.invariant-loop-part
invariant-loop-part l =
    (l.register.limits ≡ l.fn.limits)
    × (territories_after_all l.fn.limits [] l.edits
    ≡ territories_after_all l.fn.limits l.register.territories (drop l.part-index l.edits))
