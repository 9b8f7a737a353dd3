use Rattle.std.proofs.lemmas.Result.{on_ok_weaker, IfErr-weaker, err_from_is_err_and}
use Rattle.serde_json.specs.Read.{read}
use Rattle.osn_request.specs.LineObject.{line_data}
use Rattle.osn_request.specs.Request.{object_in}
use Rattle.osn_files.specs.ReadingInside.{after_line}
use Rattle.osn_files.proofs.ReadLemmas.{made-object, Stops-none, Stops-object}
use Rattle.osn_files.proofs.reading.Reading.take_text.Goals as goal

pub returns-in_err-object-clause-err : goal.returns-in_err-object-clause-err
returns-in_err-object-clause-err g c =
    let err = err_from_is_err_and c.from_residual.result c.from_residual.ensures.1 in
    rw (err.1, err.2) (Stops-none _ _ _ c.in_err-object.ensures.object)

pub returns-clause-ok : goal.returns-clause-ok
returns-clause-ok g c =
    let said = object_in (read c.args.text.now) in
    let state = g.F.LineFold.state c.args.fold.now in
    let make = after_line (g.F.LineFold.step c.args.fold.now) c.args.version.now state in
    on_ok_weaker c.take_object.result
    (λ one. (
      made-object make said (line_data c.in_ok-object.object) _ c.in_ok-object.ensures.object one.0,
      one.1,
    ))
    c.take_object.ensures.ok

pub returns-clause-err : goal.returns-clause-err
returns-clause-err g c =
    let said = object_in (read c.args.text.now) in
    let state = g.F.LineFold.state c.args.fold.now in
    let make = after_line (g.F.LineFold.step c.args.fold.now) c.args.version.now state in
    IfErr-weaker c.take_object.result _ _
    (λ why stop. Stops-object make said (line_data c.in_ok-object.object) why
    c.in_ok-object.ensures.object stop)
    c.take_object.ensures.err
