use Rattle.std.proofs.Common.{◌≡◌, ◌-◌, drop, length}
use Rattle.osn_register_text.specs.Fault.{first_renamed}
use Rattle.osn_register_text.proofs.names.check_names.Given as goal

-- the first that is renamed is among those that are left
abbrev pub invariant-loop-code : goal.invariant-loop-code
invariant-loop-code l =
    first_renamed l.target.territories l.register.territories
    ≡ first_renamed (drop l.index l.target.territories) l.register.territories

abbrev pub decreases-loop-code : goal.decreases-loop-code
decreases-loop-code l = length l.target.territories - l.index
