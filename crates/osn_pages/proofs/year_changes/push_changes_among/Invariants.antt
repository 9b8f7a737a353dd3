use Rattle.std.proofs.Common.{◌≡◌, ◌++◌, take, string_bytes}
use Rattle.std.specs.List.{flat_map}
use Rattle.osn_days.specs.Rules.{newest_rules}
use Rattle.osn_register.specs.Plain.{sources_of}
use Rattle.osn_pages.specs.YearPage as spec
use Rattle.osn_pages.proofs.year_changes.push_changes_among.Given as goal

-- the lines so far
abbrev pub invariant-loop-period : goal.invariant-loop-period
invariant-loop-period l =
    string_bytes l.out ≡ string_bytes l.initial.out
    ++ flat_map (spec.change_lines_if newest_rules l.territory
    (sources_of l.code l.register.territories) l.year) (take l.period-index l.periods)
