use Rattle.std.proofs.Common.{ap, inl, inr, subst}
use Rattle.osn_lines.specs.Streams.{output_of}
use Rattle.osn_report.specs.Messages.{ReportsIfMade}
use Rattle.osn_report.specs.OpenFailure.{open_failure_line}
use Rattle.osn_report.specs.declared.status.Status.TheVariants as statuses
use Rattle.osn_commands.proofs.letters_table.letters_of_opened.Goals as goal

pub returns-in-Ok : goal.returns-in-Ok
returns-in-Ok g c = inr c.in-Ok.ensures.ok

pub returns-in-Err : goal.returns-in-Err
returns-in-Err g c =
    let err = c.in-Err.ensures.err in
    inl (
      err.0,
      ap g.W.Sink.contents err.1,
      c.in-Err.cause,
      c.in-Err.ensures.cause,
      subst (λ errors. ReportsIfMade
          (output_of g.E.Sink.contents g.E.Sink.has_failed g.E.Sink.holds_back errors
          c.report_open_failure.new.errors) statuses.ReadFault
          (open_failure_line c.args.journal.now c.in-Err.cause) c.report_open_failure.result)
          err.2 c.report_open_failure.ensures,
    )
