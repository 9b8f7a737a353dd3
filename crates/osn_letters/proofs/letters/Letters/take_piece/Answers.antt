use Rattle.std.proofs.Common.{ap, arith, length, length-drop}
use Rattle.std.proofs.lemmas.Slice.{between_to_end}
use Rattle.osn_letters.proofs.CountFacts.{part_counted}
use Rattle.osn_letters.proofs.LetterFacts.{err_of_fault, part_stops, part_then}
use Rattle.osn_letters.proofs.letters.Letters.take_piece.Goals as goal

pub returns-in_err-count-clause-stops : goal.returns-in_err-count-clause-stops
returns-in_err-count-clause-stops c =
    let piece = c.args.piece.now in
    let part_is = between_to_end piece c.loop-count.count (length piece) (omega arith) in
    err_of_fault _ c.from_residual.result c.in_err-count.field-0.0 c.from_residual.ensures.1
    (part_stops c.args.self.now c.loop-count.self c.take_some.new.self piece _ c.loop-count.count
    c.in_err-count.field-0.0 part_is c.loop-count.invariant.takes c.in_err-count.ensures.stops)

pub loop-count-preserved : goal.loop-count-preserved
loop-count-preserved c =
    let piece = c.args.piece.now in
    let count = c.loop-count.count in
    let part_is = between_to_end piece count (length piece) (omega arith) in
    let was = c.loop-count.invariant in
    let now = c.in_ok-count.ensures in
    record {
      ready = now.ready;
      line = omega (arith, now.line, was.line);
      within =
          omega (arith, now.some.1, ap length part_is, length-drop count piece, was.within);
      takes =
          part_then c.args.self.now c.loop-count.self c.take_some.new.self piece _ count
          c.in_ok-count.field-0 part_is was.takes now.takes;
      counts =
          part_counted c.args.self.now c.loop-count.self c.take_some.new.self piece _ count
          c.in_ok-count.field-0 part_is was.counts now.counts;
    }
