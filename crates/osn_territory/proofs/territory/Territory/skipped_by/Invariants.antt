use Rattle.std.proofs.Common.{◌≡◌, ◌++◌, ◌-◌, drop}
use Rattle.osn_days.specs.Rules.{newest_rules}
use Rattle.osn_territory.proofs.SkippedFacts.{named_among}
use Rattle.osn_territory.proofs.territory.Territory.skipped_by.Given as goal

-- the changes found so far, and those from the last period that was seen on
abbrev pub invariant-loop-i : goal.invariant-loop-i
invariant-loop-i l =
    l.days.items ++ named_among newest_rules l.search.label (drop (l.i - 1) l.periods) ≡ named_among
    newest_rules l.search.label l.periods
