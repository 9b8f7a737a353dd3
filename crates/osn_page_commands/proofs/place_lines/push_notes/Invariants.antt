use Rattle.std.proofs.Common.{◌≡◌, ◌++◌, take, string_bytes}
use Rattle.std.specs.List.{flat_map}
use Rattle.osn_page_commands.specs.Place as spec
use Rattle.osn_page_commands.proofs.place_lines.push_notes.Given as goal

-- the lines so far
abbrev pub invariant-loop-territory : goal.invariant-loop-territory
invariant-loop-territory l =
    string_bytes l.lines ≡ string_bytes l.initial.lines
    ++ flat_map spec.note_line (take l.territory-index l.territories)
