use Rattle.std.proofs.Common.{refl, inr, None}
use Rattle.std.proofs.lemmas.Result.{err_from_is_err_and}
use Rattle.osn_lines.proofs.InputLemmas.{if_err_at}
use Rattle.osn_service.proofs.SessionLemmas.{Served-settled, Stopped-unwritten}
use Rattle.osn_service.proofs.session.SessionLineTaker.before_read.Goals as goal

pub returns-clause-ready : goal.returns-clause-ready
returns-clause-ready g c initial before h =
    let write = c.in_ok-write.ensures in
    Served-settled _ _ _ _ _ _ _ initial c.args.self.now _ before h
    (record { rules = refl; store = refl; sink = refl }) (λ _ k. k)
    (record { settles = inr write.ok; object = refl; sound = write.sound }) (λ _ k. k)

pub returns-in_err-write-clause-stop : goal.returns-in_err-write-clause-stop
returns-in_err-write-clause-stop g c =
    let err = err_from_is_err_and c.from_residual.result c.from_residual.ensures.1 in
    let write = c.in_err-write.ensures in
    if_err_at _ c.from_residual.result err.0 _ err.1 err.2
    (λ initial before h. Stopped-unwritten _ _ _ _ _ _ _ initial c.args.self.now _ before h
    (record { rules = refl; store = refl; sink = refl }) None c.in_err-write.field-0.0 (λ _ k. k)
    (record { some = write.err; object = refl; reason = write.reason }) (λ _ k. k))
