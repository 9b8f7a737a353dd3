use Rattle.std.proofs.Common.{◌≡◌, ◌++◌, take, string_bytes}
use Rattle.std.specs.List.{flat_map}
use Rattle.osn_days.specs.Rules.{newest_rules}
use Rattle.osn_register.specs.Plain.{sources_of}
use Rattle.osn_pages.specs.YearPage as spec
use Rattle.osn_pages.proofs.year_feasts.push_feasts_among.Given as goal

-- the feasts so far
abbrev pub invariant-loop-feast : goal.invariant-loop-feast
invariant-loop-feast l =
    string_bytes l.out ≡ string_bytes l.initial.out
    ++ flat_map (spec.feast_text newest_rules l.territory (sources_of l.code l.register.territories))
    (take l.feast-index l.feasts)
