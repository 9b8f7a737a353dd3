use Rattle.std.proofs.Common.{◌≤◌, length}
use Rattle.osn_folder.proofs.followed_disk_file.read_on.Given as goal

abbrev pub invariant-loop-call : goal.invariant-loop-call
invariant-loop-call l = record { within : l.count ≤ length l.buffer }
