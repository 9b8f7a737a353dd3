use Rattle.std.proofs.Common.{inl, inr, length, sym, subst}
use Rattle.osn_core.specs.Control.{reader_at, look, readers_after}
use Rattle.osn_core.specs.CoreInside.{IsPlaced}
use Rattle.osn_core.proofs.ReaderMoves.{move_keeps, next_or_old}
use Rattle.osn_core.proofs.ReaderPositions.{look_placed}
use Rattle.osn_core.proofs.machine.Core.look.Goals as goal

pub invariant_of-self : goal.invariant_of-self
invariant_of-self c =
    let live = c.self.inside.side in
    let phase = c.self.inside.phase in
    let n = length c.self.inside.copies.object.batches in
    let rs = c.self.inside.readers in
    let looked = look live c.args.query.now in
    let next = readers_after looked (reader_at rs c.args.reader) rs
    c.args.reader in
    record {
      side = c.self.invariant.side;
      lag = c.self.invariant.lag;
      readers = λ r. elim (next_or_old c.look.result c.look.new.self rs next c.look.ensures.ok
          c.look.ensures.err) [
            | inl is ↦ subst (λ rs. IsPlaced live phase n (reader_at rs r)) (sym is)
                (move_keeps (λ r. IsPlaced live phase n) looked rs c.args.reader
                c.self.invariant.readers (look_placed live phase n c.args.query.now) r)
            | inr is ↦ subst (λ rs. IsPlaced live phase n (reader_at rs r)) (sym is)
                (c.self.invariant.readers r)
          ];
    }
