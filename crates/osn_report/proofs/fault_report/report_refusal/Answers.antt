use Rattle.std.proofs.Common.{refl, ◌∙◌}
use Rattle.std.proofs.lemmas.Result.{IfOk-weaker}
use Rattle.osn_lines.specs.Streams.{output_of}
use Rattle.osn_report.specs.Fault.{fault_line}
use Rattle.osn_report.specs.declared.fault.CommandFault.TheVariants.{Refused}
use Rattle.osn_report.proofs.ReportLemmas.{other_line, other_status, reports_refusal}
use Rattle.osn_report.proofs.fault_report.report_refusal.Goals as goal

pub returns-in_default : goal.returns-in_default
returns-in_default g c =
    let refusal = c.args.refusal in
    let errors = output_of g.E.Sink.contents g.E.Sink.has_failed g.E.Sink.holds_back
    c.args.errors.now c.report_line.new.errors in
    reports_refusal errors (Refused refusal) (fault_line (Refused refusal)) _
    (other_status refusal c.in_default.not-NoMemory) refl
    (c.report_line.ensures (fault_line (Refused refusal))
    (IfOk-weaker c.hinted_line-line.result _ _
    (λ text e. e ∙ other_line refusal c.in_default.not-NoMemory) c.hinted_line-line.ensures))
