use Rattle.std.proofs.Common.{◌∙◌, ap, sym}
use Rattle.osn_lines.specs.LastLineFeed.{ended_length}
use Rattle.osn_folder.proofs.WholeLemmas.{cut-whole}
use Rattle.osn_cases.proofs.memory_folder.MemoryFollowedFollowedFile.look.Goals as goal

pub returns-clause-lines : goal.returns-clause-lines
returns-clause-lines c =
    cut-whole _ _ _
    (c.ended_length.ensures.value ∙ ap ended_length c.deref-2.ensures.value
    ∙ sym (ap ended_length c.deref.ensures.value))
    c.in_ok-bytes.ensures.items
