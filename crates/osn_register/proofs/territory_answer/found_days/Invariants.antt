use Rattle.std.proofs.Common.{◌≡◌, map, take}
use Rattle.osn_days.specs.Rules.{newest_rules}
use Rattle.osn_register.specs.Answer as spec
use Rattle.osn_register.proofs.territory_answer.found_days.Given as goal

-- each day so far, as the territory names it
abbrev pub invariant-loop-day : goal.invariant-loop-day
invariant-loop-day l =
    l.found.items ≡ map (spec.found_on newest_rules l.territory) (take l.day-index l.days)
