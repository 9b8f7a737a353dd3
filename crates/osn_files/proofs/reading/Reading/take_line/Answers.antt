use Rattle.std.proofs.Common.{ap, sym, ◌∙◌, subst}
use Rattle.std.proofs.lemmas.Result.{on_ok_weaker, IfErr-weaker, err_from_is_err_and}
use Rattle.osn_files.specs.ReadingInside.{after_line}
use Rattle.osn_files.specs.Stops.{Stops}
use Rattle.osn_files.specs.Turns.{on_read}
use Rattle.osn_files.proofs.ReadLemmas.{Stops-fault}
use Rattle.osn_files.proofs.reading.Reading.take_line.Goals as goal

pub returns-in_err-text-clause-err : goal.returns-in_err-text-clause-err
returns-in_err-text-clause-err g c =
    let err = err_from_is_err_and c.from_residual.result c.from_residual.ensures.1 in
    rw (err.1, err.2)
    (λ whole is. Stops-fault _ _ _ (c.in_err-text.ensures.object whole is))

pub returns-clause-ok : goal.returns-clause-ok
returns-clause-ok g c =
    let state = g.F.LineFold.state c.args.fold.now in
    let make = after_line (g.F.LineFold.step c.args.fold.now) c.args.version.now state in
    on_ok_weaker c.take_text.result
    (λ one. (
      λ whole is. ap (λ r. on_read r make) (c.in_ok-text.ensures.object whole is) ∙ one.0,
      one.1,
    ))
    c.take_text.ensures.ok

pub returns-clause-err : goal.returns-clause-err
returns-clause-err g c =
    let state = g.F.LineFold.state c.args.fold.now in
    let make = after_line (g.F.LineFold.step c.args.fold.now) c.args.version.now state in
    IfErr-weaker c.take_text.result _ _
    (λ why stop whole is. subst (λ r. Stops (on_read r make) why)
    (sym (c.in_ok-text.ensures.object whole is)) stop)
    c.take_text.ensures.err
