use Rattle.std.proofs.Common.{ℕ, ◌-◌, ◌<◌, ◌≤◌, ◌<ℤ◌, ◌≤ℤ◌}
use Rattle.osn_days.specs.Rules.{newest_rules}
use Rattle.osn_territory.specs.RunKeys.{number_on}
use Rattle.osn_territory.proofs.runs.Key.first_from.Given as goal

-- the numbers of the days before the lower bound are below it, and those from the higher one on
-- are not
abbrev pub invariant-loop-low : goal.invariant-loop-low
invariant-loop-low l = record {
  first : l.first ≤ l.low;
  order : l.low ≤ l.high;
  end : l.high ≤ l.end;
  below : (d : ℕ) → l.first ≤ d → d < l.low → number_on newest_rules l.self d <ℤ l.bound;
  reached : (d : ℕ) → l.high ≤ d → d < l.end → l.bound ≤ℤ number_on newest_rules l.self d;
}

abbrev pub decreases-loop-low : goal.decreases-loop-low
decreases-loop-low l = l.high - l.low
