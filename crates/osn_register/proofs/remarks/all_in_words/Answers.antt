use Rattle.osn_written.specs.DateInWords.{words_of}
use Rattle.osn_register.proofs.FoundFacts.{found_all}
use Rattle.osn_register.proofs.remarks.all_in_words.Goals as goal

pub returns : goal.returns
returns c = found_all words_of c.args.dates.now c.loop-date.date-index
    c.loop-date.texts.items c.loop-date-test.false c.loop-date.invariant
