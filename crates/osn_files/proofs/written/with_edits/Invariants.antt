use Rattle.std.proofs.Common.{◌≡◌, ◌++◌, drop}
use Rattle.osn_files.specs.JournalText.{edits_text}
use Rattle.osn_files.proofs.written.with_edits.Given as goal

-- the text so far and the edits that are left make the whole text
abbrev pub invariant-loop-edit : goal.invariant-loop-edit
invariant-loop-edit l =
    l.more.items ++ edits_text (drop l.edit-index l.edits)
    ≡ l.initial.more.items ++ edits_text l.edits
