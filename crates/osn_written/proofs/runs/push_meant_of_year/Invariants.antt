use Rattle.std.proofs.Common.{◌≡◌, ◌++◌, filter, take}
use Rattle.osn_days.specs.Rules.{newest_rules}
use Rattle.osn_territory.specs.Dating.{dated_on}
use Rattle.osn_territory.specs.Runs.{days_in}
use Rattle.osn_written.specs.Runs as spec
use Rattle.osn_written.proofs.runs.push_meant_of_year.Given as goal

-- the days of the runs so far that are meant
abbrev pub invariant-loop-run : goal.invariant-loop-run
invariant-loop-run l =
    l.days.items ≡ l.initial.days.items
    ++ filter (λ d. spec.is_meant_double l.date (dated_on newest_rules l.territory d))
    (days_in (take l.run-index l.run-items))
