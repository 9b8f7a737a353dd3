use Rattle.std.proofs.Common.{◌≡◌, ◌++◌, map, take, string_bytes}
use Rattle.std.specs.List.{flat_map}
use Rattle.osn_days.specs.Rules.{newest_rules}
use Rattle.osn_territory.specs.Dating.{dated_on}
use Rattle.osn_pages.specs.Why as spec
use Rattle.osn_pages.proofs.why.push_nearest_lines.Given as goal

-- the lines so far
abbrev pub invariant-loop-day : goal.invariant-loop-day
invariant-loop-day l =
    string_bytes l.out ≡ string_bytes l.initial.out ++ flat_map spec.nearest_line
    (map (dated_on newest_rules l.territory) (take l.day-index l.days))
