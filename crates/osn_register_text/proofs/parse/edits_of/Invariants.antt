use Rattle.std.proofs.Common.{◌≡◌}
use Rattle.toml.specs.View.{members_view}
use Rattle.osn_register_text.specs.Inside.{onto}
use Rattle.osn_register_text.specs.Text.{text_edits}
use Rattle.osn_register_text.proofs.parse.edits_of.Given as goal

-- The edits of the territories that are left, onto those so far, are the edits of all.
abbrev pub invariant-loop-code : goal.invariant-loop-code
invariant-loop-code l =
    text_edits (members_view l.table.entries)
    ≡ onto l.edits.items (text_edits (members_view l.code-iterator))
