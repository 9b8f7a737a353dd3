use Rattle.osn_lines.specs.Streams.{output_of}
use Rattle.osn_report.proofs.ReportLemmas.{reports_explanation}
use Rattle.osn_report.proofs.explanation.report_at.Goals as goal

pub returns-in_default : goal.returns-in_default
returns-in_default g c =
    let errors = output_of g.E.Sink.contents g.E.Sink.has_failed g.E.Sink.holds_back
    c.args.errors.now c.report_explanation.new.errors in
    reports_explanation c.args.path.now errors c.args.fault _ c.in_default.not-NotOpened
    c.report_explanation.ensures
