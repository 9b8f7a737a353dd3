use Rattle.std.proofs.lemmas.Result.{on_ok_weaker}
use Rattle.osn_letters.proofs.PassFacts.{passes_written}
use Rattle.osn_letters.proofs.stream.take_and_write.Goals as goal

pub returns-clause-passes : goal.returns-clause-passes
returns-clause-passes g c =
    on_ok_weaker c.write_out.result
    (passes_written (g.W.Sink.contents c.args.sink.now) (g.W.Sink.contents c.write_out.new.sink)
    c.args.letters.now c.take_piece-outcome.new.self c.write_out.new.out c.args.piece.now
    c.take_piece-outcome.result c.requires.empty c.take_piece-outcome.ensures.takes)
    c.write_out.ensures.all
