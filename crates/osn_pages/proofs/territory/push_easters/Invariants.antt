use Rattle.std.proofs.Common.{◌≡◌, ◌++◌, string_bytes}
use Rattle.std.specs.List.{flat_map}
use Rattle.osn_days.specs.Rules.{newest_rules}
use Rattle.osn_pages.specs.Territory as spec
use Rattle.osn_pages.proofs.territory.push_easters.Given as goal

-- the lines of the Easters that are left are still to come
abbrev pub invariant-loop-year : goal.invariant-loop-year
invariant-loop-year l =
    string_bytes l.initial.out
    ++ flat_map (spec.easter_lines newest_rules l.territory l.sources) l.territory.exceptions
    ≡ string_bytes l.out
    ++ flat_map (spec.easter_lines newest_rules l.territory l.sources) l.year-iterator
