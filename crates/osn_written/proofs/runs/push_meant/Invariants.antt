use Rattle.std.proofs.Common.{◌≡◌, ◌++◌, ◌+◌, ◌-◌, ◌≤◌, filter}
use Rattle.std.specs.List.{range_with_len}
use Rattle.osn_days.specs.Rules.{newest_rules}
use Rattle.osn_territory.specs.Dating.{dated_on}
use Rattle.osn_written.specs.Runs as spec
use Rattle.osn_written.proofs.runs.push_meant.Given as goal

-- the days so far that are meant
abbrev pub invariant-loop-number : goal.invariant-loop-number
invariant-loop-number l =
    (l.fn.run.first ≤ l.number)
    × (l.number - l.fn.run.first ≤ l.fn.run.last + 1 - l.fn.run.first)
    × (l.days.items ≡ l.initial.days.items
    ++ filter (λ d. spec.is_meant_double l.fn.date (dated_on newest_rules l.fn.territory d))
    (range_with_len l.fn.run.first (l.number - l.fn.run.first)))
