use Rattle.std.proofs.Common.{◌≡◌, ◌++◌, drop}
use Rattle.osn_territory.specs.Runs.{days_in}
use Rattle.osn_written.specs.Runs as spec
use Rattle.osn_written.proofs.runs.joined_after.Given as goal

-- the runs so far, and those of the current run and the days that are left
abbrev pub invariant-loop-run : goal.invariant-loop-run
invariant-loop-run l =
    (l.joined.items ++ spec.runs_from l.current (days_in (drop l.run-index l.others))
    ≡ spec.runs_from l.fn.first (days_in l.others))
    × spec.HaveDays (drop l.run-index l.others)
