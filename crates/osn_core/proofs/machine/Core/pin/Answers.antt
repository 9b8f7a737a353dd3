use Rattle.std.proofs.Common.{length, sym, subst}
use Rattle.osn_core.specs.Control.{reader_at, pin}
use Rattle.osn_core.specs.CoreInside.{IsPlaced}
use Rattle.osn_core.proofs.ReaderMoves.{move_keeps}
use Rattle.osn_core.proofs.ReaderPositions.{pin_placed}
use Rattle.osn_core.proofs.machine.Core.pin.Goals as goal

pub invariant_of-self : goal.invariant_of-self
invariant_of-self c =
    let live = c.self.inside.side in
    let phase = c.self.inside.phase in
    let n = length c.self.inside.copies.object.batches in
    record {
      side = c.self.invariant.side;
      lag = c.self.invariant.lag;
      readers = λ r. subst (λ rs. IsPlaced live phase n (reader_at rs r))
          (sym c.pin.ensures.after)
          (move_keeps (λ r. IsPlaced live phase n) pin c.self.inside.readers c.args.reader
          c.self.invariant.readers (pin_placed live phase n) r);
    }
