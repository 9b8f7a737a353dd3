use Rattle.std.proofs.Common.{◌≡◌, Some, take}
use Rattle.std.specs.List.{flat_map}
use Rattle.osn_days.specs.Rules.{newest_rules}
use Rattle.osn_register.specs.Answer.{change_if}
use Rattle.osn_register.specs.Inside.{sources_in}
use Rattle.osn_register.proofs.change_answer.found_changes.Given as goal

-- the changes so far
abbrev pub invariant-loop-period : goal.invariant-loop-period
invariant-loop-period l =
    l.list.items ≡ flat_map (change_if newest_rules l.territory (Some (sources_in l.sources)))
    (take l.period-index l.periods)
