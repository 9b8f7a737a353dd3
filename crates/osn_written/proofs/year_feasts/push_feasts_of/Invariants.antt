use Rattle.std.proofs.Common.{◌≡◌, ◌++◌, take}
use Rattle.std.specs.List.{flat_map}
use Rattle.osn_days.specs.Rules.{newest_rules}
use Rattle.osn_written.specs.YearFeasts as spec
use Rattle.osn_written.proofs.year_feasts.push_feasts_of.Given as goal

-- the feasts of each Easter so far
abbrev pub invariant-loop-easter : goal.invariant-loop-easter
invariant-loop-easter l =
    l.feasts.items ≡ l.initial.feasts.items
    ++ flat_map (spec.feasts_by newest_rules l.territory l.year l.january_year)
    (take l.easter-index l.easter-items)
