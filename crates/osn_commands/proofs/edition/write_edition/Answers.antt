use Rattle.std.proofs.Common.{inl, inr}
use Rattle.osn_serve_commands.proofs.ResultLemmas.{if_err_made}
use Rattle.osn_commands.proofs.EditionLemmas.{cut_back}
use Rattle.osn_commands.specs.PublishInside.{CanStay}
use Rattle.osn_commands.proofs.edition.write_edition.Goals as goal

pub returns-in_err-append_whole-clause-err : goal.returns-in_err-append_whole-clause-err
returns-in_err-append_whole-clause-err g c =
    let cut = c.in_ok-cut_unfinished.ensures.ok in
    let failed = c.in_err-append_whole.ensures in
    if_err_made c.from_residual-in_err-append_whole.result
    c.from_residual-in_err-append_whole.ensures.1
    (λ e is. (
      cut.0,
      cut.1,
      (λ edits lines content known whole.
          let done = cut.2 content known whole in (
            inl (c.in_err-append_whole.field-0.0, failed.reason, is),
            inr (
              done.0,
              cut_back (CanStay g.K.KeptFile.cut_back_may_fail) c.args.part content
                  c.args.lines.now edits _ _ (lines content whole) whole done.1 failed.err,
            ),
          )),
    ))
