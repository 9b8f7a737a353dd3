use Rattle.std.proofs.Common.{◌∙◌, ap}
use Rattle.osn_lines.specs.LastLineFeed.{ended_length}
use Rattle.osn_folder.proofs.WholeLemmas.{cut-whole}
use Rattle.osn_folder.proofs.followed_disk_file.FollowedDiskFile.read_lines.Goals as goal

pub returns-in-Ok-clause-lines : goal.returns-in-Ok-clause-lines
returns-in-Ok-clause-lines g c =
    cut-whole _ _ _
    (c.ended_length-whole_length.ensures.value ∙ ap ended_length c.deref.ensures.value)
    c.truncate-in-Ok.ensures.items
