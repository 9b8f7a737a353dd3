use Rattle.std.proofs.Common.{inl, inr, refl, subst}
use Rattle.osn_lines.specs.Streams.{output_of}
use Rattle.osn_commands.specs.Check.{ChecksText}
use Rattle.osn_commands.proofs.check.check_bytes.Goals as goal

pub returns-in-Ok : goal.returns-in-Ok
returns-in-Ok g c =
    inr (
      c.in-Ok.ensures.cases.1,
      subst (λ text. ChecksText c.args.limits c.args.path.now text
          (output_of g.W.Sink.contents g.W.Sink.has_failed g.W.Sink.holds_back c.args.output.now
          c.check_text.new.output)
          (output_of g.E.Sink.contents g.E.Sink.has_failed g.E.Sink.holds_back c.args.errors.now
          c.check_text.new.errors) c.check_text.result) c.in-Ok.ensures.cases.0
          c.check_text.ensures,
    )

pub returns-in-Err : goal.returns-in-Err
returns-in-Err g c = inl (c.in-Err.ensures.cases.0, refl, c.report_text_file.ensures)
