use Rattle.std.proofs.Common.{refl}
use Rattle.osn_files.proofs.FileLemmas.{ReadsFile-err, spares_nothing}
use Rattle.osn_file_commands.specs.TranscriptAudit.{agreed_lines}
use Rattle.osn_file_commands.proofs.AuditReadLemmas.{agreed_from_1, all_agreed, refused_too}
use Rattle.osn_file_commands.proofs.transcript_audit.audit_lines.Goals as goal

pub returns : goal.returns
returns g c = record {
  made = all_agreed _ _ _ _ _ _ _ c.in-Ok.ensures.object c.newest.ensures c.in-Ok.ensures.last
      c.in_ok-count.ensures.file.made c.in_ok-count.ensures.count;
  end = c.in_ok-count.ensures.file.end;
  sound = c.in_ok-count.ensures.file.sound;
  fault = tt;
  reason = tt;
}

pub returns-in_err-count : goal.returns-in_err-count
returns-in_err-count g c =
    ReadsFile-err c.from_residual.ensures.1 c.in_err-count.ensures.file
    (λ ls. refused_too _ _ _ _ ls c.in-Ok.ensures.object c.newest.ensures c.in-Ok.ensures.last)

pub returns-in_default : goal.returns-in_default
returns-in_default g c = record {
  made = tt;
  end = tt;
  sound = tt;
  fault = spares_nothing (agreed_lines c.args.object) _ 65536
      (agreed_from_1 c.args.object);
  reason = refl;
}
