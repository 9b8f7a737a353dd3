use Rattle.std.proofs.Common.{◌≡◌, ◌++◌, take, string_bytes}
use Rattle.std.specs.List.{flat_map}
use Rattle.osn_days.specs.Rules.{newest_rules}
use Rattle.osn_pages.specs.Almanac as spec
use Rattle.osn_pages.proofs.easters.push_feasts.Given as goal

-- the feasts so far
abbrev pub invariant-loop-feast : goal.invariant-loop-feast
invariant-loop-feast l =
    string_bytes l.out ≡ string_bytes l.initial.out
    ++ flat_map (spec.feast_line newest_rules l.territory l.easter)
    (take l.feast-index l.feasts)
