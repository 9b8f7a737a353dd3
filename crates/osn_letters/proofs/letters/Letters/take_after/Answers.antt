use Rattle.osn_letters.proofs.LetterFacts.{err_of_fault, byte_refused, record_refused}
use Rattle.osn_letters.proofs.letters.Letters.take_after.Goals as goal

pub returns-in_err-ended-clause-stops : goal.returns-in_err-ended-clause-stops
returns-in_err-ended-clause-stops c = err_of_fault _ c.from_residual.result c.in_err-ended.field-0.0
    c.from_residual.ensures.1
    (byte_refused c.args.self.now c.take.new.self c.args.byte c.in_err-ended.field-0.0
    c.in_err-ended.ensures.fault)

pub returns-in_err-take-clause-stops : goal.returns-in_err-take-clause-stops
returns-in_err-take-clause-stops c = err_of_fault _ c.from_residual-in_err-take.result
    c.in_err-take.field-0.0 c.from_residual-in_err-take.ensures.1
    (record_refused c.args.self.now c.take-2.new.self c.take.new.self c.args.byte c.in-Some.ended _
    c.in_err-take.field-0.0 c.separator-separator.ensures
    (rw c.in-Some.is at c.in_ok-ended.ensures.takes)
    c.in_err-take.ensures.refuses)
