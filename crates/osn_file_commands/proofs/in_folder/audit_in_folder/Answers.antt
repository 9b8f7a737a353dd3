use Rattle.std.proofs.Common.{sym, subst}
use Rattle.osn_folder.specs.Folder.{IsFileOf, MayFail}
use Rattle.osn_lines.specs.Streams.{input_of}
use Rattle.osn_report.specs.Folders.{folders_of}
use Rattle.osn_report.specs.ProgressSource.{source_of}
use Rattle.osn_file_commands.specs.Audit.{AuditFails}
use Rattle.osn_file_commands.proofs.FailLemmas.{failed_on_two}
use Rattle.osn_file_commands.proofs.in_folder.audit_in_folder.Goals as goal

pub returns-in-Ok-clause-ok : goal.returns-in-Ok-clause-ok
returns-in-Ok-clause-ok g c =
    let found = c.in_ok-edits in
    let left = c.audit_command.new in
    let remaining = g.D.File.Source.remaining in
    let has_failed = g.D.File.Source.has_failed in (
      found.ensures.ok,
      input_of remaining has_failed found.edits left.journal,
      (found.ensures.first, (λ e. (left.journal, e))),
      input_of remaining has_failed (source_of c.new-answers.result) (source_of left.transcript),
      (
        subst (λ file. IsFileOf (g.D.Folder.known c.args.folder.now) c.args.transcript.now
            (remaining file)) (sym c.new-answers.ensures) found.ensures.second,
        (λ e. (source_of left.transcript, e)),
      ),
      c.in-Ok.ensures.ok,
    )

pub returns-clause-err : goal.returns-clause-err
returns-clause-err g c =
    let found = c.in_ok-edits in
    let left = c.audit_command.new in
    let remaining = g.D.File.Source.remaining in
    let has_failed = g.D.File.Source.has_failed in
    failed_on_two c.args.journal.now c.args.transcript.now _ (MayFail has_failed)
    (folders_of g.D.Folder.known c.args.folder.now c.open_both.new.folder)
    (AuditFails c.args.limits) _ c.in-Err.fault c.failed.result
    (input_of remaining has_failed found.edits left.journal)
    (input_of remaining has_failed (source_of c.new-answers.result) (source_of left.transcript))
    found.ensures.ok (found.ensures.first, (λ e. (left.journal, e))) (
      subst (λ file. IsFileOf (g.D.Folder.known c.args.folder.now) c.args.transcript.now
          (remaining file)) (sym c.new-answers.ensures) found.ensures.second,
      (λ e. (source_of left.transcript, e)),
    ) c.failed.ensures c.in-Err.ensures.err c.failure_of_two.ensures.path
    c.failure_of_two.ensures.fault
