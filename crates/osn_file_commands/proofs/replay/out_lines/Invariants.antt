use Rattle.std.proofs.Common.{◌≡◌, take, string_bytes}
use Rattle.std.specs.List.{flat_map}
use Rattle.osn_service.specs.OutText.{out_line}
use Rattle.osn_file_commands.proofs.replay.out_lines.Given as goal

-- the lines of the outs so far
abbrev pub invariant-loop-out : goal.invariant-loop-out
invariant-loop-out l = string_bytes l.text ≡ flat_map out_line (take l.out-index l.outs)
