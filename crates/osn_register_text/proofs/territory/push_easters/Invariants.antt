use Rattle.std.proofs.Common.{◌≡◌, ◌++◌, string_bytes}
use Rattle.std.specs.List.{flat_map}
use Rattle.osn_register.specs.Plain.{sources_of}
use Rattle.osn_register_text.specs.WrittenText as spec
use Rattle.osn_register_text.proofs.territory.push_easters.Given as goal

-- the Easters that are left are still to come
abbrev pub invariant-loop-year : goal.invariant-loop-year
invariant-loop-year l =
    string_bytes l.initial.out
    ++ flat_map (spec.easter_text l.code l.territory (sources_of l.code l.register.territories))
    l.territory.exceptions
    ≡ string_bytes l.out
    ++ flat_map (spec.easter_text l.code l.territory (sources_of l.code l.register.territories))
    l.year-iterator
