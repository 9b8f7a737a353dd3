use Rattle.std.proofs.Common.{◌≡◌, ◌≤◌, ◌++◌, drop, length}
use Rattle.std.specs.List.{flat_map}
use Rattle.osn_days.specs.Rules.{newest_rules}
use Rattle.osn_territory.specs.LabelSearch.{days_read, most_tested}
use Rattle.osn_territory.proofs.territory.Territory.read_by.Given as goal

-- the days found so far, and those of the periods that are left. No more were tested than for as
-- many periods
abbrev pub invariant-loop-period : goal.invariant-loop-period
invariant-loop-period l =
    (l.days.items ++ flat_map (days_read newest_rules l.search.label)
    (drop l.period-index l.period-items)
    ≡ flat_map (days_read newest_rules l.search.label) l.period-items)
    × (l.tested ≤ most_tested l.search.table (length l.period-items) l.period-index)
