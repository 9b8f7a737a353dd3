use Rattle.std.proofs.Common.{◌≡◌, ◌++◌, take, string_bytes}
use Rattle.std.specs.List.{flat_map}
use Rattle.osn_days.specs.Rules.{newest_rules}
use Rattle.osn_register.specs.Plain.{sources_of}
use Rattle.osn_pages.specs.Almanac as spec
use Rattle.osn_pages.proofs.changes.push_changes_among.Given as goal

-- the changes so far
abbrev pub invariant-loop-period : goal.invariant-loop-period
invariant-loop-period l =
    string_bytes l.out ≡ string_bytes l.initial.out
    ++ flat_map (spec.change_lines newest_rules (sources_of l.code l.register.territories) l.year)
    (take l.period-index l.periods)
