-- The lines of editions, one after another.
use Rattle.std.proofs.Common.{◌≡◌, ℕ, ◌+◌, ◌<◌, List, ◌++◌, length, get_or, take, drop}
use Rattle.std.proofs.Common.{ap, sym, ◌∙◌}
use Rattle.std.proofs.lemmas.List.{drop_more, take_more}
use Rattle.osn_register.specs.declared.edit.Edit.{Edit}
use Rattle.osn_page_commands.specs.EditionList.{codes_after, editions_lines, edition_line, new_code}

-- the codes of the edits from one on
pub next_code : (edits : List Edit) (i : ℕ) (d : Edit) → i < length edits
    → codes_after (take i edits) (drop i edits)
    ≡ new_code (take i edits) (get_or edits i d)
    ++ codes_after (take (i + 1) edits) (drop (i + 1) edits)
next_code edits i d within =
    ap (codes_after (take i edits)) (drop_more edits i d within)
    ∙ ap (λ before. new_code (take i edits) (get_or edits i d)
    ++ codes_after before (drop (i + 1) edits)) (sym (take_more edits i d within))

-- the lines of the editions from one on
pub next_edition : (batches : List (List Edit)) (i line : ℕ) (d : List Edit) → i < length batches
    → editions_lines i line (drop i batches)
    ≡ edition_line (i + 1) (line + (length (get_or batches i d) + 1)) (get_or batches i d)
    ++ editions_lines (i + 1) (line + (length (get_or batches i d) + 1)) (drop (i + 1) batches)
next_edition batches i line d within = ap (editions_lines i line) (drop_more batches i d within)
