use Rattle.std.proofs.Common.{string_bytes}
use Rattle.osn_service.specs.OutText.{out_line}
use Rattle.osn_file_commands.proofs.LineLemmas.{next_line}
use Rattle.osn_file_commands.proofs.replay.out_lines.Goals as goal

pub loop-out-preserved : goal.loop-out-preserved
loop-out-preserved c =
    next_line out_line (string_bytes c.loop-out.text) (string_bytes c.push_str.new.self)
    c.as_str.result.now (string_bytes c.in_ok-line.line) c.args.outs.now c.loop-out.out-index
    c.out-item.result c.loop-out-test.true c.loop-out.invariant
    c.in_ok-push_str.ensures.bytes c.as_str.ensures.value c.in_ok-line.ensures c.out-item.is
