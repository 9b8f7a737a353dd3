use Rattle.std.proofs.Common.{◌≡◌, map, take}
use Rattle.osn_days.specs.Rules.{newest_rules}
use Rattle.osn_territory.specs.Dating.{dated_on}
use Rattle.osn_territory.specs.Runs.{days_in}
use Rattle.osn_pages.proofs.month.dated_days.Given as goal

-- the days of the runs so far
abbrev pub invariant-loop-run : goal.invariant-loop-run
invariant-loop-run l =
    l.days.items ≡ map (dated_on newest_rules l.territory) (days_in (take l.run-index l.runs))
