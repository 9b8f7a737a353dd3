use Rattle.std.proofs.Common.{◌≡◌, ◌-◌, false, length, sym, subst, ◌∙◌}
use Rattle.osn_core.specs.Control.{reader_at, is_marked}
use Rattle.osn_core.specs.CoreInside.{IsPlaced, IsLag}
use Rattle.osn_core.proofs.ReaderPositions.{claimed_placed}
use Rattle.osn_core.proofs.machine.Core.claim.Goals as goal

pub invariant_of-self : goal.invariant_of-self
invariant_of-self c =
    let live = c.self.inside.side in
    let n = length c.self.inside.copies.object.batches in
    let rs = c.self.inside.readers in
    let none : is_marked (1 - live) rs ≡ false = sym c.marks.ensures ∙ c.if-marks.false in
    let lag = subst (IsLag c.self.inside.copies.object c.self.inside.copies.lag) c.in-Draining.is
    c.self.invariant.lag in
    record {
      side = c.self.invariant.side;
      lag = lag.0;
      readers = claimed_placed live n rs none (λ r. subst (λ ph. IsPlaced live ph n
          (reader_at rs r)) c.in-Draining.is (c.self.invariant.readers r));
    }
