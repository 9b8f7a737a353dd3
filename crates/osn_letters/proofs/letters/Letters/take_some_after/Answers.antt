use Rattle.std.proofs.Common.{refl, rules}
use Rattle.osn_letters.proofs.LetterFacts.{err_of_fault, byte_stops, run_taken}
use Rattle.osn_letters.proofs.letters.Letters.take_some_after.Goals as goal

pub returns-in_err-take_after-clause-stops : goal.returns-in_err-take_after-clause-stops
returns-in_err-take_after-clause-stops c =
    let s = c.args.self.now in
    let q = c.take_run.new.self in
    err_of_fault _ c.from_residual-in_err-take_after.result c.in_err-take_after.field-0.0
    c.from_residual-in_err-take_after.ensures.1
    (byte_stops s (record { start = s.start; parser = q; table = s.table }) c.take_after.new.self
    c.args.bytes.now _ _ c.in_err-take_after.field-0.0 (search rules) refl
    (run_taken s q _ c.in_ok-len.ensures.takes) c.in_err-take_after.ensures.stops)
