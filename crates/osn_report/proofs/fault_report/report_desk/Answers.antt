use Rattle.std.proofs.Common.{refl, ◌∙◌}
use Rattle.std.proofs.lemmas.Result.{IfOk-weaker}
use Rattle.osn_lines.specs.Streams.{output_of}
use Rattle.osn_report.specs.Fault.{fault_line}
use Rattle.osn_report.specs.declared.fault.CommandFault.TheVariants.{Desk}
use Rattle.osn_report.proofs.ReportLemmas.{reports_desk, other_desk, reports_refusal}
use Rattle.osn_report.proofs.fault_report.report_desk.Goals as goal

pub returns-in_default : goal.returns-in_default
returns-in_default g c =
    let fault = c.args.fault in
    let errors = output_of g.E.Sink.contents g.E.Sink.has_failed g.E.Sink.holds_back
    c.args.errors.now c.report_line.new.errors in
    reports_refusal errors (Desk fault) (fault_line (Desk fault)) _
    (other_desk fault c.in_default.not-NoMemory) refl
    (c.report_line.ensures (fault_line (Desk fault))
    (IfOk-weaker c.refusal_number_line-line.result _ _
    (λ text e. e ∙ reports_desk fault _ _ c.in_default.not-NoMemory c.number.ensures c.name.ensures)
    c.refusal_number_line-line.ensures))
