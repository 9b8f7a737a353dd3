use Rattle.std.proofs.Common.{◌≡◌, ◌++◌, take, string_bytes}
use Rattle.std.specs.List.{flat_map}
use Rattle.osn_register_text.specs.Part.{further_part}
use Rattle.osn_register_text.proofs.part.push_further_parts.Given as goal

-- the parts so far
abbrev pub invariant-loop-part : goal.invariant-loop-part
invariant-loop-part l =
    string_bytes l.out ≡ string_bytes l.initial.out
    ++ flat_map further_part (take l.part-index l.parts)
