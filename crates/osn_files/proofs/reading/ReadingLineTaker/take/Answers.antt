use Rattle.std.proofs.lemmas.Result.{on_ok_weaker, IfErr-weaker}
use Rattle.osn_files.proofs.ReadLemmas.{Reads-line, StopsReading-line}
use Rattle.osn_files.proofs.reading.ReadingLineTaker.take.Goals as goal

pub returns-clause-takes : goal.returns-clause-takes
returns-clause-takes g c =
    on_ok_weaker c.take_line.result
    (λ one whole is initial before h.
    Reads-line g.F.LineFold.step g.F.LineFold.state initial c.args.self.now
    (record {
      alloc = c.args.self.now.alloc;
      scratch = c.take_line.new.scratch;
      version = c.take_line.new.version;
      fold = c.take_line.new.fold;
    })
    before whole h (one.0 whole is) one.1)
    c.take_line.ensures.ok

pub returns-clause-stop : goal.returns-clause-stop
returns-clause-stop g c =
    IfErr-weaker c.take_line.result _ _
    (λ why stop whole is initial before h.
    StopsReading-line g.F.LineFold.step g.F.LineFold.state initial c.args.self.now before whole why
    h
    (stop whole is))
    c.take_line.ensures.err
