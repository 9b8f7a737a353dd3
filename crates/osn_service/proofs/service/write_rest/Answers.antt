use Rattle.std.proofs.Common.{subst}
use Rattle.std.proofs.lemmas.Result.{err_from_is_err_and}
use Rattle.osn_service.specs.TakingInside.{EndsTaking}
use Rattle.osn_service.proofs.ClauseLemmas.{Serves-passed, Serves-unwritten, Serves-all}
use Rattle.osn_service.proofs.ClauseLemmas.{Serves-refused, Serves-first}
use Rattle.osn_service.proofs.service.write_rest.Goals as goal

pub returns-in_err-lines-clause-serves : goal.returns-in_err-lines-clause-serves
returns-in_err-lines-clause-serves g c rules initial object i h =
    let err = err_from_is_err_and c.from_residual.result c.from_residual.ensures.1 in
    rw (err.1, err.2)
    (Serves-passed rules initial _ _ i c.in_err-lines.field-0.0 (rw c.in_err-lines.was at h))

pub returns-in-Err-clause-serves : goal.returns-in-Err-clause-serves
returns-in-Err-clause-serves g c rules initial object i h =
    let write = c.in-Err.ensures in
    let taken = rw c.in_ok-lines.was at h in
    Serves-unwritten i taken.0 _ _ _ _ write.err write.reason

pub returns-in-AtEnd-clause-serves : goal.returns-in-AtEnd-clause-serves
returns-in-AtEnd-clause-serves g c rules initial object i h =
    let write = c.in_default.ensures in
    let taken = rw c.in_ok-lines.was at h in
    Serves-all i taken.0 _ _ _ write.ok.all write.sound write.passed
    (subst (EndsTaking rules initial.object i _) c.in-AtEnd.is taken.1)

pub returns-in-AtRefusal-clause-serves : goal.returns-in-AtRefusal-clause-serves
returns-in-AtRefusal-clause-serves g c rules initial object i h =
    let write = c.in_default.ensures in
    let taken = rw c.in_ok-lines.was at h in
    Serves-refused i taken.0 _ _ _ write.ok.all write.sound write.passed
    (subst (EndsTaking rules initial.object i _) c.in-AtRefusal.is taken.1)

pub returns-in-ByFault-clause-serves : goal.returns-in-ByFault-clause-serves
returns-in-ByFault-clause-serves g c rules initial object i h =
    let write = c.in_default.ensures in
    let taken = rw c.in_ok-lines.was at h in
    Serves-first i taken.0 _ _ _ write.ok.all write.sound write.passed c.in-ByFault.cause
    (subst (EndsTaking rules initial.object i _) c.in-ByFault.is taken.1)
