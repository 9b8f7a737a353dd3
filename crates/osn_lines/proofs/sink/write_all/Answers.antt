use Rattle.std.proofs.Common.{arith, length, ap, ◌∙◌}
use Rattle.std.proofs.lemmas.List.{take_rest, length-drop}
use Rattle.osn_lines.proofs.ByteLemmas.{Appends-next}
use Rattle.osn_lines.proofs.sink.write_all.Goals as goal

pub loop-call-preserved : goal.loop-call-preserved
loop-call-preserved g c =
    let bytes = c.args.bytes.now in
    let from = c.loop-call.count in
    let size = length-drop from bytes in
    let rest = ap length (take_rest bytes from) in
    record {
      within = omega (arith, c.in-Ok-write.ensures.bound, rest, size);
      calls =
          omega (
            arith,
            c.in-Ok-write.ensures.some,
            rest,
            size,
            c.loop-call.invariant.within,
            c.loop-call.invariant.calls,
          );
      appends =
          Appends-next _ _ _ bytes _ from c.in-Ok-write.n (take_rest bytes from)
          c.loop-call.invariant.appends c.in-Ok-write.ensures.bytes;
      sound = c.in-Ok-write.ensures.failed ∙ c.loop-call.invariant.sound;
    }
