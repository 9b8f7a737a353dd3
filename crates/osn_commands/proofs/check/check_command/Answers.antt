use Rattle.std.proofs.Common.{inl, inr, refl, subst, ◌∙◌}
use Rattle.std.proofs.lemmas.Option.{IfSome_then}
use Rattle.osn_lines.specs.Streams.{output_of}
use Rattle.osn_commands.specs.TextFile.{ReportsTextFile}
use Rattle.osn_commands.proofs.check.check_command.Goals as goal

pub returns-in-Ok : goal.returns-in-Ok
returns-in-Ok g c =
    inr (
      c.deref.result.now,
      IfSome_then (g.T.Source.remaining c.args.text.now) c.in-Ok.ensures.bytes
          (λ bytes is. c.deref.ensures.value ∙ is),
      c.check_bytes.ensures,
    )

pub returns-in-Err : goal.returns-in-Err
returns-in-Err g c =
    inl (
      c.in-Err.fault,
      c.in-Err.ensures.reason,
      refl,
      subst (λ fault. ReportsTextFile c.args.path.now
          (output_of g.E.Sink.contents g.E.Sink.has_failed g.E.Sink.holds_back c.args.errors.now
          c.report_text_file.new.errors) fault c.report_text_file.result) c.from.ensures
          c.report_text_file.ensures,
    )
