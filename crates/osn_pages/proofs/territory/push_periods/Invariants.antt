use Rattle.std.proofs.Common.{◌≡◌, ◌++◌, take, string_bytes}
use Rattle.std.specs.List.{flat_map}
use Rattle.osn_days.specs.Rules.{newest_rules}
use Rattle.osn_pages.specs.Periods.{period_lines}
use Rattle.osn_pages.proofs.territory.push_periods.Given as goal

-- the lines so far
abbrev pub invariant-loop-period : goal.invariant-loop-period
invariant-loop-period l =
    string_bytes l.out ≡ string_bytes l.initial.out
    ++ flat_map (period_lines newest_rules l.sources) (take l.period-index l.periods)
