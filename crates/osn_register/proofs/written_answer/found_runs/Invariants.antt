use Rattle.std.proofs.Common.{◌≡◌, map, take}
use Rattle.osn_days.specs.Rules.{newest_rules}
use Rattle.osn_register.specs.Answer as spec
use Rattle.osn_register.proofs.written_answer.found_runs.Given as goal

-- each run so far, by its first and its last day
abbrev pub invariant-loop-run : goal.invariant-loop-run
invariant-loop-run l =
    l.found.items ≡ map (spec.found_run newest_rules l.territory) (take l.run-index l.runs)
