use Rattle.std.proofs.lemmas.Result.{IfOk-weaker}
use Rattle.osn_file_commands.proofs.AuditLawLemmas.{agreed_on}
use Rattle.osn_file_commands.proofs.transcript_audit.audit.Goals as goal

pub returns-clause-agrees : goal.returns-clause-agrees
returns-clause-agrees g c =
    IfOk-weaker c.audit_lines.result _ _
    (λ n made. agreed_on c.args.limits _ _ c.in_ok-object.object n
    c.in_ok-object.ensures.file.made made)
    c.audit_lines.ensures.made
