use Rattle.std.proofs.Common.{[], subst}
use Rattle.std.proofs.lemmas.Result.{on_ok_weaker, IfErr-weaker}
use Rattle.osn_letters.specs.LettersInside.{Wrote, text_after}
use Rattle.osn_letters.specs.Table.{whole}
use Rattle.osn_letters.specs.WriterInside.{waiting}
use Rattle.osn_letters.proofs.CountFacts.{end_counted}
use Rattle.osn_letters.proofs.LetterFacts.{err_of_fault, end_taken, end_stops, end_stops_held}
use Rattle.osn_letters.proofs.PassFacts.{last_stops}
use Rattle.osn_letters.proofs.letters.Letters.finish.Goals as goal

pub returns-in_err-take_held-clause-stops : goal.returns-in_err-take_held-clause-stops
returns-in_err-take_held-clause-stops c = err_of_fault _ c.from_residual.result
    c.in_err-take_held.field-0.0 c.from_residual.ensures.1
    (end_stops_held c.args.self.now c.take_held.new.self c.in_err-take_held.field-0.0
    c.in_err-take_held.ensures.stops)

pub returns-in_err-take_last-clause-stops : goal.returns-in_err-take_last-clause-stops
returns-in_err-take_last-clause-stops c = err_of_fault _ c.from_residual-in_err-take_last.result
    c.in_err-take_last.field-0.0 c.from_residual-in_err-take_last.ensures.1
    (end_stops c.args.self.now c.take_held.new.self (waiting c.take_last.new.self.table.out)
    c.in_err-take_last.field-0.0 c.in_ok-take_held.ensures.takes
    c.in_err-take_last.ensures.stops)

pub returns-clause-takes : goal.returns-clause-takes
returns-clause-takes c =
    let t = c.take_held.new.self in
    let out = waiting c.take_last.new.self.table.out in
    on_ok_weaker c.finish.result
    (λ ended. end_taken c.args.self.now t out whole c.in_ok-take_held.ensures.takes
    (subst (λ w. Wrote (waiting t.table.out) out (text_after t []) w) ended
    c.in_ok-take_last.ensures.takes))
    c.finish.ensures.whole

pub returns-clause-stops : goal.returns-clause-stops
returns-clause-stops c =
    IfErr-weaker c.finish.result _ _
    (λ fault h. end_stops c.args.self.now c.take_held.new.self
    (waiting c.take_last.new.self.table.out) fault c.in_ok-take_held.ensures.takes
    (last_stops fault c.in_ok-take_last.ensures.takes h.0 h.1))
    c.finish.ensures.fault

pub returns-clause-counts : goal.returns-clause-counts
returns-clause-counts c =
    on_ok_weaker c.finish.result
    (λ ended. end_counted c.args.self.now c.take_held.new.self _ c.in_ok-take_held.ensures.counts
    c.in_ok-take_last.ensures.counts)
    c.finish.ensures.whole
