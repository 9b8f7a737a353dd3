use Rattle.std.proofs.Common.{[]}
use Rattle.osn_letters.specs.LettersInside.{text_from}
use Rattle.osn_letters.proofs.LetterFacts.{end_waits}
use Rattle.osn_letters.proofs.stream.finish_and_write.Goals as goal

pub returns-in-Err-clause-early : goal.returns-in-Err-clause-early
returns-in-Err-clause-early g c =
    c.in-Err.ensures.early (text_from c.args.letters.now [])
    (end_waits c.args.letters.now c.finish-outcome.new.self c.finish-outcome.result
    c.requires.empty c.finish-outcome.ensures.takes c.finish-outcome.ensures.stops)
