use Rattle.std.proofs.Common.{◌≡◌, ℕ, ◌*◌, ◌≤◌, ◌++◌, drop, length}
use Rattle.std.specs.List.{flat_map}
use Rattle.osn_days.specs.Rules.{newest_rules}
use Rattle.osn_territory.specs.Territory.{Covers}
use Rattle.osn_territory.specs.Runs.{days_in}
use Rattle.osn_territory.specs.RunKeys.{sought_in, most_runs, LieBetween}
use Rattle.osn_territory.proofs.territory.Territory.runs_of.Given as goal

-- the days found so far, and those of the periods that are left, which begin after the runs
abbrev pub invariant-loop-period : goal.invariant-loop-period
invariant-loop-period l = record {
  days : days_in l.runs.items ++ flat_map (sought_in newest_rules l.sought)
      (drop l.period-index l.period-items)
      ≡ flat_map (sought_in newest_rules l.sought) l.period-items;
  runs : (first : ℕ) × Covers first newest_rules.high (drop l.period-index l.period-items)
      × LieBetween 0 first l.runs.items;
  count : length l.runs.items ≤ most_runs l.sought.month * l.period-index;
}
