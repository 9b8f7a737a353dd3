use Rattle.std.proofs.lemmas.Result.{on_ok_weaker, IfErr-weaker}
use Rattle.osn_letters.proofs.CountFacts.{held_counted}
use Rattle.osn_letters.proofs.LetterFacts.{err_of_fault, held_takes, held_stops, held_stops_first}
use Rattle.osn_letters.proofs.letters.Letters.take_held.Goals as goal

pub returns-in_err-take_after-in-TwoBytes-clause-stops :
    goal.returns-in_err-take_after-in-TwoBytes-clause-stops
returns-in_err-take_after-in-TwoBytes-clause-stops c = err_of_fault _ c.from_residual.result
    c.in_err-take_after-in-TwoBytes.field-0.0 c.from_residual.ensures.1
    (held_stops_first c.args.self.now c.take_after-in-TwoBytes.new.self c.args.self.now.start
    c.in_err-take_after-in-TwoBytes.field-0.0 c.in-TwoBytes.is
    c.in_err-take_after-in-TwoBytes.ensures.stops)

pub returns-in_ok-take_after-in-TwoBytes-clause-takes :
    goal.returns-in_ok-take_after-in-TwoBytes-clause-takes
returns-in_ok-take_after-in-TwoBytes-clause-takes c =
    on_ok_weaker c.take_after-in-TwoBytes-2.result
    (held_takes c.args.self.now c.take_after-in-TwoBytes.new.self
    c.take_after-in-TwoBytes-2.new.self c.args.self.now.start c.in-TwoBytes.is
    c.in_ok-take_after-in-TwoBytes.ensures.takes)
    c.take_after-in-TwoBytes-2.ensures.takes

pub returns-in_ok-take_after-in-TwoBytes-clause-stops :
    goal.returns-in_ok-take_after-in-TwoBytes-clause-stops
returns-in_ok-take_after-in-TwoBytes-clause-stops c =
    IfErr-weaker c.take_after-in-TwoBytes-2.result _ _
    (λ fault. held_stops c.args.self.now c.take_after-in-TwoBytes.new.self
    c.take_after-in-TwoBytes-2.new.self c.args.self.now.start fault c.in-TwoBytes.is
    c.in_ok-take_after-in-TwoBytes.ensures.takes)
    c.take_after-in-TwoBytes-2.ensures.stops

pub returns-in_ok-take_after-in-TwoBytes-clause-counts :
    goal.returns-in_ok-take_after-in-TwoBytes-clause-counts
returns-in_ok-take_after-in-TwoBytes-clause-counts c =
    on_ok_weaker c.take_after-in-TwoBytes-2.result
    (held_counted c.args.self.now c.take_after-in-TwoBytes.new.self
    c.take_after-in-TwoBytes-2.new.self c.args.self.now.start c.in-TwoBytes.is
    c.in_ok-take_after-in-TwoBytes.ensures.counts)
    c.take_after-in-TwoBytes-2.ensures.counts
