use Rattle.std.proofs.Common.{◌≡◌, ◌++◌, take, string_bytes}
use Rattle.std.specs.List.{flat_map}
use Rattle.osn_days.specs.Rules.{newest_rules}
use Rattle.osn_register_text.specs.EditLine.{edit_line}
use Rattle.osn_register_text.proofs.page.push_edits.Given as goal

-- the lines so far
abbrev pub invariant-loop-edit : goal.invariant-loop-edit
invariant-loop-edit l =
    string_bytes l.out ≡ string_bytes l.initial.out
    ++ flat_map (edit_line newest_rules l.register.territories l.target.territories)
    (take l.edit-index l.edits)
