use Rattle.std.proofs.Common.{◌≡◌, map, take}
use Rattle.osn_days.specs.Rules.{newest_rules}
use Rattle.osn_register.specs.Answer as spec
use Rattle.osn_register.proofs.territory_answer.found_feasts.Given as goal

-- each feast so far, with its day as the territory names it
abbrev pub invariant-loop-feast : goal.invariant-loop-feast
invariant-loop-feast l =
    l.found.items ≡ map (spec.found_feast newest_rules l.territory) (take l.feast-index l.feasts)
