use Rattle.std.proofs.Common.{◌≡◌, ◌++◌, take}
use Rattle.std.specs.List.{flat_map}
use Rattle.osn_days.specs.Rules.{newest_rules}
use Rattle.osn_written.specs.YearFeasts as spec
use Rattle.osn_written.proofs.year_feasts.push_feasts_among.Given as goal

-- the feasts so far
abbrev pub invariant-loop-feast : goal.invariant-loop-feast
invariant-loop-feast l =
    l.feasts.items ≡ l.initial.feasts.items
    ++ flat_map (spec.feast_in newest_rules l.territory l.year l.january_year l.easter)
    (take l.feast-index l.among)
