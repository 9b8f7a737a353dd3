use Rattle.std.proofs.Common.{◌++◌, ◌∙◌, ap, append_assoc, codes, string_bytes}
use Rattle.std.proofs.lemmas.Result.{on_ok_weaker}
use Rattle.std.specs.List.{flat_map}
use Rattle.osn_page_commands.specs.Place.{note_line}
use Rattle.osn_page_commands.proofs.place_lines.push_each.Goals as goal

pub returns : goal.returns
returns c =
    let notes = flat_map note_line c.args.suggested.now in
    on_ok_weaker c.push_notes.result (λ e. e ∙ ap (λ s. s ++ notes) c.in_ok-push_str.ensures.bytes
    ∙ append_assoc (string_bytes c.args.line.now) (codes ": did you mean one of these?\n") notes)
    c.push_notes.ensures
