use Rattle.std.proofs.Common.{◌≡◌, ◌++◌, take, string_bytes}
use Rattle.std.specs.List.{flat_map}
use Rattle.osn_pages.specs.Almanac as spec
use Rattle.osn_pages.proofs.months.push_month_days.Given as goal

-- the days so far
abbrev pub invariant-loop-day : goal.invariant-loop-day
invariant-loop-day l =
    string_bytes l.out ≡ string_bytes l.initial.out
    ++ flat_map (spec.month_day_line l.month) (take l.day-index l.days)
