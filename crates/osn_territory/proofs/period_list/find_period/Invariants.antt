use Rattle.std.proofs.Common.{◌+◌, ◌-◌, ◌*◌, ◌^◌, ◌<◌, ◌≤◌, length, get_or}
use Rattle.osn_territory.specs.declared.period.Period.{Period}
use Rattle.osn_territory.proofs.period_list.find_period.Given as goal

-- the period at the lower place begins by the day, the one at the upper place, if there is one,
-- after it. Each test has halved what is between them
abbrev pub invariant-loop-high : goal.invariant-loop-high
invariant-loop-high l =
    (l.low < l.high)
    × (l.high ≤ length l.periods)
    × ((p : Period) → (get_or l.periods l.low p).first ≤ l.number)
    × ((p : Period) → l.high < length l.periods → l.number < (get_or l.periods l.high p).first)
    × (l.tested + (l.high - l.low) ≤ length l.periods)
    × (2 ^ l.tested * (l.high - l.low - 1) < length l.periods)
    × (2 ^ l.tested ≤ 2 * length l.periods)

abbrev pub decreases-loop-high : goal.decreases-loop-high
decreases-loop-high l = l.high - l.low
