use Rattle.std.proofs.Common.{inl, inr, ap, refl, string_bytes, ◌∙◌}
use Rattle.std.proofs.lemmas.Result.{IfOk-weaker}
use Rattle.osn_serve_commands.specs.Save.{beside_line}
use Rattle.osn_serve_commands.proofs.saved_file.save_journal.Goals as goal

pub returns-in-Ok : goal.returns-in-Ok
returns-in-Ok g c =
    let path = c.args.file.path.now in
    rw c.if-beside.true (inl (
      string_bytes c.in-Ok.backup,
      c.in-Ok.ensures.ok,
      c.report_line.ensures (beside_line path (string_bytes c.in-Ok.backup))
          (IfOk-weaker c.beside_line-line.result _ _
          (λ text is. is ∙ ap (beside_line path) c.as_str.ensures.value)
          c.beside_line-line.ensures),
    ))

pub returns-in-Err : goal.returns-in-Err
returns-in-Err g c =
    rw c.if-beside.true (inr (c.in-Err.fault, c.in-Err.ensures.err, c.report_unsaved.ensures))

pub returns-in-Ok-save_file : goal.returns-in-Ok-save_file
returns-in-Ok-save_file g c =
    rw c.if-beside.false
    (inl ((refl, (refl, refl)), (c.in-Ok-save_file.ensures.ok, c.in-Ok-save_file.ensures.safe)))

pub returns-in-Err-save_file : goal.returns-in-Err-save_file
returns-in-Err-save_file g c =
    rw c.if-beside.false (inr (
      c.in-Err-save_file.fault,
      (c.in-Err-save_file.ensures.err, c.in-Err-save_file.ensures.crash),
      c.report_unsaved-in-Err-save_file.ensures,
    ))
