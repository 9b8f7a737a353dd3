use Rattle.std.proofs.Common.{◌≡◌, ◌+◌, ◌-◌, map}
use Rattle.std.specs.List.{range_with_len}
use Rattle.osn_days.specs.Rules.{newest_rules}
use Rattle.osn_written.specs.Nearest as spec
use Rattle.osn_written.proofs.nearest.nearest_within.Given as goal

-- the nearest days are those of the years that are left
abbrev pub invariant-loop-years : goal.invariant-loop-years
invariant-loop-years l =
    spec.nearest_within newest_rules l.territory l.date l.most ≡ spec.first_with_days
    (map (spec.days_apart newest_rules l.territory l.date)
    (range_with_len l.years (l.most + 1 - l.years)))
