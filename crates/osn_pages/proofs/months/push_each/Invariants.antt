use Rattle.std.proofs.Common.{◌≡◌, ◌++◌, take, string_bytes}
use Rattle.std.specs.List.{flat_map}
use Rattle.osn_days.specs.Rules.{newest_rules}
use Rattle.osn_pages.specs.Almanac as spec
use Rattle.osn_pages.proofs.months.push_each.Given as goal

-- the months so far
abbrev pub invariant-loop-month : goal.invariant-loop-month
invariant-loop-month l =
    string_bytes l.out ≡ string_bytes l.initial.out
    ++ flat_map (spec.month_lines newest_rules l.territory l.year)
    (take l.month-index l.months)
