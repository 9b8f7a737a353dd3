use Rattle.std.proofs.Common.{◌≡◌, Some, map, take}
use Rattle.osn_register.specs.Answer.{and_source}
use Rattle.osn_register.specs.Inside.{sources_in}
use Rattle.osn_register.proofs.territory_answer.and_sources.Given as goal

-- each period so far, with its source
abbrev pub invariant-loop-period : goal.invariant-loop-period
invariant-loop-period l =
    l.list.items ≡ map (and_source (Some (sources_in l.sources))) (take l.period-index l.periods)
