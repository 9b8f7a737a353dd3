use Rattle.std.proofs.Common.{◌≡◌, ◌++◌, ◌+◌, ◌-◌, ◌≤◌, map}
use Rattle.std.specs.List.{range_with_len}
use Rattle.osn_days.specs.Rules.{newest_rules}
use Rattle.osn_territory.specs.Dating.{dated_on}
use Rattle.osn_pages.proofs.month.push_run.Given as goal

-- the days so far, of which the run has no fewer
abbrev pub invariant-loop-number : goal.invariant-loop-number
invariant-loop-number l =
    (l.fn.run.first ≤ l.number)
    × (l.number - l.fn.run.first ≤ l.fn.run.last + 1 - l.fn.run.first)
    × (l.days.items ≡ l.initial.days.items ++ map (dated_on newest_rules l.territory)
    (range_with_len l.fn.run.first (l.number - l.fn.run.first)))
