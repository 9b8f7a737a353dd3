use Rattle.std.proofs.Common.{length, sym, subst, ap, ◌∙◌}
use Rattle.osn_core.specs.Control.{reader_at, check, readers_after}
use Rattle.osn_core.specs.CoreInside.{IsPlaced}
use Rattle.osn_core.proofs.ReaderMoves.{move_keeps}
use Rattle.osn_core.proofs.ReaderPositions.{check_placed}
use Rattle.osn_core.proofs.machine.Core.check.Goals as goal

pub invariant_of-self : goal.invariant_of-self
invariant_of-self c =
    let live = c.self.inside.side in
    let phase = c.self.inside.phase in
    let n = length c.self.inside.copies.object.batches in
    let rs = c.self.inside.readers in
    let after = c.check.ensures.after ∙ ap (λ k. readers_after (check live k)
    (reader_at rs c.args.reader) rs c.args.reader) c.edition.ensures in
    record {
      side = c.self.invariant.side;
      lag = c.self.invariant.lag;
      readers = λ r. subst (λ rs. IsPlaced live phase n (reader_at rs r)) (sym after)
          (move_keeps (λ r. IsPlaced live phase n) (check live n) rs c.args.reader
          c.self.invariant.readers (check_placed live phase n) r);
    }
