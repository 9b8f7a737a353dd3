use Rattle.std.proofs.Common.{◌≡◌, Some, length, sym, subst, ap, ◌∙◌, rules}
use Rattle.osn_core.specs.declared.reader.ReaderState.TheVariants.{Entered, Answered}
use Rattle.osn_core.specs.Control.{reader_at}
use Rattle.osn_core.specs.CoreInside.{IsPlaced}
use Rattle.osn_core.proofs.ReaderMoves.{put_keeps, is_there}
use Rattle.osn_core.proofs.ReaderPositions.{in_two}
use Rattle.osn_core.proofs.machine.Core.answer.Goals as goal

pub side-requires : goal.side-requires
side-requires c =
    let live = c.self.inside.side in
    let phase = c.self.inside.phase in
    let n = length c.self.inside.copies.object.batches in
    let position : reader_at c.self.inside.readers c.args.reader
    ≡ Some (Entered c.in-Some-Entered.query c.in-Some-Entered.side c.in-Some-Entered.edition) =
    sym c.in-Some-Entered.ensures ∙ ap Some c.in-Some-Entered.field-0-is in
    in_two live phase n c.in-Some-Entered.side c.in-Some-Entered.edition c.self.invariant.side
    (subst (IsPlaced live phase n) position (c.self.invariant.readers c.args.reader))

pub set-requires-clause-there : goal.set-requires-clause-there
set-requires-clause-there c =
    let position : reader_at c.self.inside.readers c.args.reader
    ≡ Some (Entered c.in-Some-Entered.query c.in-Some-Entered.side c.in-Some-Entered.edition) =
    sym c.in-Some-Entered.ensures ∙ ap Some c.in-Some-Entered.field-0-is in
    is_there c.self.inside.readers c.args.reader
    (Entered c.in-Some-Entered.query c.in-Some-Entered.side c.in-Some-Entered.edition) position

pub invariant_of-self : goal.invariant_of-self
invariant_of-self c =
    let live = c.self.inside.side in
    let phase = c.self.inside.phase in
    let n = length c.self.inside.copies.object.batches in
    let rs = c.self.inside.readers in
    let there = Entered c.in-Some-Entered.query c.in-Some-Entered.side c.in-Some-Entered.edition in
    let then = Answered c.in-Some-Entered.side c.in-Some-Entered.edition in
    let position : reader_at rs c.args.reader ≡ Some there =
    sym c.in-Some-Entered.ensures ∙ ap Some c.in-Some-Entered.field-0-is in
    record {
      side = c.self.invariant.side;
      lag = c.self.invariant.lag;
      readers = λ r. subst (λ rs. IsPlaced live phase n (reader_at rs r)) (sym c.set.ensures)
          (put_keeps (λ r. IsPlaced live phase n) rs c.args.reader there then position
          c.self.invariant.readers (subst (IsPlaced live phase n) position
          (c.self.invariant.readers c.args.reader)) r);
    }

pub returns-clause-out : goal.returns-clause-out
returns-clause-out c = search rules
