use Rattle.std.proofs.Common.{◌+◌, ◌∙◌, Some, None, inl, inr, refl, subst}
use Rattle.osn_lines.specs.Streams.{output_of}
use Rattle.osn_report.specs.Messages.{WritesLine}
use Rattle.osn_serve_commands.proofs.KeptFileLemmas.{all_left, unfinished_cut}
use Rattle.osn_serve_commands.proofs.ResultLemmas.{if_err_made}
use Rattle.osn_serve_commands.proofs.keep.cut_unfinished.Goals as goal

pub returns-in-Ended-clause-ok : goal.returns-in-Ended-clause-ok
returns-in-Ended-clause-ok g c = (
  None,
  refl,
  (λ content known whole.
      let is = all_left c.args.part content c.in-Ended.is whole in (is.0, known ∙ is.1)),
)

pub returns-in_err-message-in-Unfinished-clause-err
    : goal.returns-in_err-message-in-Unfinished-clause-err
returns-in_err-message-in-Unfinished-clause-err g c =
    if_err_made c.from_residual.result c.from_residual.ensures.1 (λ e is. (inr is, refl, refl))

pub returns-in_err-cut-in-Unfinished-clause-err : goal.returns-in_err-cut-in-Unfinished-clause-err
returns-in_err-cut-in-Unfinished-clause-err g c =
    if_err_made c.from_residual-in_err-cut-in-Unfinished.result
    c.from_residual-in_err-cut-in-Unfinished.ensures.1
    (λ e is. (
      inl (_, c.in_err-cut-in-Unfinished.ensures.fault, is),
      refl,
      c.in_err-cut-in-Unfinished.ensures.err,
    ))

pub returns-in_ok-cut-in-Unfinished-clause-ok : goal.returns-in_ok-cut-in-Unfinished-clause-ok
returns-in_ok-cut-in-Unfinished-clause-ok g c = (
  Some (c.args.part.lines + 1),
  subst (WritesLine (output_of g.E.Sink.contents g.E.Sink.has_failed g.E.Sink.holds_back
      c.args.errors.now c.write_line.new.errors))
      (c.as_str.ensures.value ∙ c.in_ok-message-in-Unfinished.ensures) c.write_line.ensures,
  (λ content known whole.
      unfinished_cut c.args.part content _ _ c.in-Unfinished.is
      c.in_ok-cut-in-Unfinished.ensures.ok known whole),
)
