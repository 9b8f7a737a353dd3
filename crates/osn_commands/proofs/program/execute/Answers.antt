use Rattle.std.proofs.Common.{refl, string_bytes}
use Rattle.std.proofs.lemmas.Result.{IfErr-weaker, IfOk-weaker}
use Rattle.osn_file_commands.specs.Audit.{Audits}
use Rattle.osn_file_commands.specs.Replay.{Replays}
use Rattle.osn_file_commands.specs.Transcript.{Transcribes}
use Rattle.osn_lines.specs.Streams.{output_of}
use Rattle.osn_commands.proofs.RunLemmas.{failed, if_done, if_failed, not_done, one_printed, ran}
use Rattle.osn_commands.proofs.RunLemmas.{two_printed}
use Rattle.osn_commands.proofs.program.execute.Goals as goal

pub returns-in-Serve-clause-ok : goal.returns-in-Serve-clause-ok
returns-in-Serve-clause-ok g c =
    IfOk-weaker c.serve_in_folder.result _ _
    (λ status h. ran c.args.limits c.args.command _ _ _ _ _ _ _ status c.in-Serve.is h)
    c.serve_in_folder.ensures.ok

pub returns-in-Serve-clause-err : goal.returns-in-Serve-clause-err
returns-in-Serve-clause-err g c =
    IfErr-weaker c.serve_in_folder.result _ _
    (λ failure h. (failed c.args.limits c.args.command _ _ _ _ _ c.in-Serve.is h.0, h.1, h.2))
    c.serve_in_folder.ensures.err

pub returns-in-Replay-clause-ok : goal.returns-in-Replay-clause-ok
returns-in-Replay-clause-ok g c =
    let o = output_of g.W.Sink.contents g.W.Sink.has_failed g.W.Sink.holds_back
    c.args.output.now c.print_result.new.output in
    let e = output_of g.E.Sink.contents g.E.Sink.has_failed g.E.Sink.holds_back
    c.args.errors.now c.print_result.new.errors in
    IfOk-weaker c.print_result.result _ _
    (λ status h. ran c.args.limits c.args.command _ _ _ _ _ o e status c.in-Replay.is
    (one_printed string_bytes _ _ o e status c.replay_in_folder-text.result c.in-Replay.schedule.now
    (Replays c.args.limits c.in-Replay.readers)
    c.replay_in_folder-text.ensures.ok h.0 h.1))
    c.print_result.ensures.ok

pub returns-in-Replay-clause-err : goal.returns-in-Replay-clause-err
returns-in-Replay-clause-err g c =
    IfErr-weaker c.print_result.result _ _
    (λ failure h. (
      failed c.args.limits c.args.command _ _ _ _ _ c.in-Replay.is
          (if_failed c.replay_in_folder-text.result failure _ h.0
          c.replay_in_folder-text.ensures.err),
      h.1,
      h.2,
    )) c.print_result.ensures.err

pub returns-in-Desk-clause-ok : goal.returns-in-Desk-clause-ok
returns-in-Desk-clause-ok g c =
    let o = output_of g.W.Sink.contents g.W.Sink.has_failed g.W.Sink.holds_back
    c.args.output.now c.print_result-in-Desk.new.output in
    let e = output_of g.E.Sink.contents g.E.Sink.has_failed g.E.Sink.holds_back
    c.args.errors.now c.print_result-in-Desk.new.errors in
    IfOk-weaker c.print_result-in-Desk.result _ _
    (λ status h. ran c.args.limits c.args.command _ _ _ _ _ o e status c.in-Desk.is
    (two_printed string_bytes _ _ o e status c.desk_in_folder-text.result c.in-Desk.script.now
    c.in-Desk.questions.now (Transcribes c.args.limits)
    c.desk_in_folder-text.ensures.ok h.0 h.1))
    c.print_result-in-Desk.ensures.ok

pub returns-in-Desk-clause-err : goal.returns-in-Desk-clause-err
returns-in-Desk-clause-err g c =
    IfErr-weaker c.print_result-in-Desk.result _ _
    (λ failure h. (
      failed c.args.limits c.args.command _ _ _ _ _ c.in-Desk.is
          (if_failed c.desk_in_folder-text.result failure _ h.0 c.desk_in_folder-text.ensures.err),
      h.1,
      h.2,
    )) c.print_result-in-Desk.ensures.err

pub returns-in-Page-clause-ok : goal.returns-in-Page-clause-ok
returns-in-Page-clause-ok g c =
    IfOk-weaker c.page_in_folder.result _ _
    (λ status h. ran c.args.limits c.args.command _ _ _ _ _ _ _ status c.in-Page.is h)
    c.page_in_folder.ensures.ok

pub returns-in-Page-clause-err : goal.returns-in-Page-clause-err
returns-in-Page-clause-err g c =
    IfErr-weaker c.page_in_folder.result _ _
    (λ failure h. (failed c.args.limits c.args.command _ _ _ _ _ c.in-Page.is h.0, h.1, h.2))
    c.page_in_folder.ensures.err

pub returns-in-Audit-clause-ok : goal.returns-in-Audit-clause-ok
returns-in-Audit-clause-ok g c =
    let o = output_of g.W.Sink.contents g.W.Sink.has_failed g.W.Sink.holds_back
    c.args.output.now c.print_result-in-Audit.new.output in
    let e = output_of g.E.Sink.contents g.E.Sink.has_failed g.E.Sink.holds_back
    c.args.errors.now c.print_result-in-Audit.new.errors in
    IfOk-weaker c.print_result-in-Audit.result _ _
    (λ status h. ran c.args.limits c.args.command _ _ _ _ _ o e status c.in-Audit.is
    (two_printed string_bytes _ _ o e status c.audit_in_folder-text.result c.in-Audit.journal.now
    c.in-Audit.transcript.now (Audits c.args.limits)
    c.audit_in_folder-text.ensures.ok h.0 h.1))
    c.print_result-in-Audit.ensures.ok

pub returns-in-Audit-clause-err : goal.returns-in-Audit-clause-err
returns-in-Audit-clause-err g c =
    IfErr-weaker c.print_result-in-Audit.result _ _
    (λ failure h. (
      failed c.args.limits c.args.command _ _ _ _ _ c.in-Audit.is
          (if_failed c.audit_in_folder-text.result failure _ h.0
          c.audit_in_folder-text.ensures.err),
      h.1,
      h.2,
    )) c.print_result-in-Audit.ensures.err

pub returns-in-Letters-clause-ok : goal.returns-in-Letters-clause-ok
returns-in-Letters-clause-ok g c =
    IfOk-weaker c.result_at.result _ _
    (λ status h. ran c.args.limits c.args.command _ _ _ _ _ _ _ status c.in-Letters.is
    (if_done c.table_in_folder-status.result status _ h c.table_in_folder-status.ensures.ok))
    c.result_at.ensures.ok

pub returns-in-Letters-clause-err : goal.returns-in-Letters-clause-err
returns-in-Letters-clause-err g c =
    IfErr-weaker c.result_at.result _ _
    (λ failure h.
    let why = not_done c.table_in_folder-status.result h.0 _ h.1
    c.table_in_folder-status.ensures.err in (
      failed c.args.limits c.args.command _ _ _ _ _ c.in-Letters.is (
        h.2,
        (
          h.0,
          h.3,
          if_failed c.table_in_folder-status.result h.0 _ h.1
              c.table_in_folder-status.ensures.cause,
        ),
        why.0,
      ),
      why.1,
      why.2,
    )) c.result_at.ensures.err

pub returns-in-Editions-clause-ok : goal.returns-in-Editions-clause-ok
returns-in-Editions-clause-ok g c =
    IfOk-weaker c.result_at-in-Editions.result _ _
    (λ status h. ran c.args.limits c.args.command _ _ _ _ _ _ _ status c.in-Editions.is
    (if_done c.editions_in_folder-status.result status _ h c.editions_in_folder-status.ensures.ok))
    c.result_at-in-Editions.ensures.ok

pub returns-in-Editions-clause-err : goal.returns-in-Editions-clause-err
returns-in-Editions-clause-err g c =
    IfErr-weaker c.result_at-in-Editions.result _ _
    (λ failure h.
    let why = not_done c.editions_in_folder-status.result h.0 _ h.1
    c.editions_in_folder-status.ensures.err in (
      failed c.args.limits c.args.command _ _ _ _ _ c.in-Editions.is (
        h.2,
        (
          h.0,
          h.3,
          if_failed c.editions_in_folder-status.result h.0 _ h.1
              c.editions_in_folder-status.ensures.cause,
        ),
        why.0,
      ),
      why.1,
      why.2,
    )) c.result_at-in-Editions.ensures.err

pub returns-in-Diff-clause-ok : goal.returns-in-Diff-clause-ok
returns-in-Diff-clause-ok g c =
    IfOk-weaker c.result_at-in-Diff.result _ _
    (λ status h. ran c.args.limits c.args.command _ _ _ _ _ _ _ status c.in-Diff.is
    (if_done c.diff_in_folder-status.result status _ h c.diff_in_folder-status.ensures.ok))
    c.result_at-in-Diff.ensures.ok

pub returns-in-Diff-clause-err : goal.returns-in-Diff-clause-err
returns-in-Diff-clause-err g c =
    IfErr-weaker c.result_at-in-Diff.result _ _
    (λ failure h.
    let why = not_done c.diff_in_folder-status.result h.0 _ h.1
    c.diff_in_folder-status.ensures.err in (
      failed c.args.limits c.args.command _ _ _ _ _ c.in-Diff.is (
        h.2,
        (
          h.0,
          h.3,
          if_failed c.diff_in_folder-status.result h.0 _ h.1 c.diff_in_folder-status.ensures.cause,
        ),
        why.0,
      ),
      why.1,
      why.2,
    )) c.result_at-in-Diff.ensures.err

pub returns-in-Text-clause-ok : goal.returns-in-Text-clause-ok
returns-in-Text-clause-ok g c =
    IfOk-weaker c.result_at-in-Text.result _ _
    (λ status h. ran c.args.limits c.args.command _ _ _ _ _ _ _ status c.in-Text.is
    (if_done c.text_in_folder-status.result status _ h c.text_in_folder-status.ensures.ok))
    c.result_at-in-Text.ensures.ok

pub returns-in-Text-clause-err : goal.returns-in-Text-clause-err
returns-in-Text-clause-err g c =
    IfErr-weaker c.result_at-in-Text.result _ _
    (λ failure h.
    let why = not_done c.text_in_folder-status.result h.0 _ h.1
    c.text_in_folder-status.ensures.err in (
      failed c.args.limits c.args.command _ _ _ _ _ c.in-Text.is (
        h.2,
        (
          h.0,
          h.3,
          if_failed c.text_in_folder-status.result h.0 _ h.1 c.text_in_folder-status.ensures.cause,
        ),
        why.0,
      ),
      why.1,
      why.2,
    )) c.result_at-in-Text.ensures.err

pub returns-in-Check-clause-ok : goal.returns-in-Check-clause-ok
returns-in-Check-clause-ok g c =
    IfOk-weaker c.result_at-in-Check.result _ _
    (λ status h. ran c.args.limits c.args.command _ _ _ _ _ _ _ status c.in-Check.is
    (if_done c.check_in_folder-status.result status _ h c.check_in_folder-status.ensures.ok))
    c.result_at-in-Check.ensures.ok

pub returns-in-Check-clause-err : goal.returns-in-Check-clause-err
returns-in-Check-clause-err g c =
    IfErr-weaker c.result_at-in-Check.result _ _
    (λ failure h.
    let why =
    not_done c.check_in_folder-status.result h.0 _ h.1 c.check_in_folder-status.ensures.err in (
      failed c.args.limits c.args.command _ _ _ _ _ c.in-Check.is (
        h.2,
        (
          h.0,
          h.3,
          if_failed c.check_in_folder-status.result h.0 _ h.1
              c.check_in_folder-status.ensures.cause,
        ),
        why.0,
      ),
      why.1,
      why.2,
    )) c.result_at-in-Check.ensures.err

pub returns-in-Plan-clause-ok : goal.returns-in-Plan-clause-ok
returns-in-Plan-clause-ok g c =
    IfOk-weaker c.result_at-in-Plan.result _ _
    (λ status h. ran c.args.limits c.args.command _ _ _ _ _ _ _ status c.in-Plan.is
    (if_done c.plan_in_folder-status.result status _ h c.plan_in_folder-status.ensures.ok))
    c.result_at-in-Plan.ensures.ok

pub returns-in-Plan-clause-err : goal.returns-in-Plan-clause-err
returns-in-Plan-clause-err g c =
    IfErr-weaker c.result_at-in-Plan.result _ _
    (λ failure h.
    let why = not_done c.plan_in_folder-status.result h.0 _ h.1
    c.plan_in_folder-status.ensures.err in (
      failed c.args.limits c.args.command _ _ _ _ _ c.in-Plan.is (
        h.2,
        (
          h.0,
          h.3,
          if_failed c.plan_in_folder-status.result h.0 _ h.1 c.plan_in_folder-status.ensures.cause,
        ),
        why.0,
      ),
      why.1,
      why.2,
    )) c.result_at-in-Plan.ensures.err

pub returns-in-Publish-clause-ok : goal.returns-in-Publish-clause-ok
returns-in-Publish-clause-ok g c =
    IfOk-weaker c.result_at-in-Publish.result _ _
    (λ status h. ran c.args.limits c.args.command _ _ _ _ _ _ _ status c.in-Publish.is
    (if_done c.publish_in_folder-status.result status _ h c.publish_in_folder-status.ensures.ok))
    c.result_at-in-Publish.ensures.ok

pub returns-in-Publish-clause-err : goal.returns-in-Publish-clause-err
returns-in-Publish-clause-err g c =
    IfErr-weaker c.result_at-in-Publish.result _ _
    (λ failure h.
    let why = not_done c.publish_in_folder-status.result h.0 _ h.1
    c.publish_in_folder-status.ensures.err in (
      failed c.args.limits c.args.command _ _ _ _ _ c.in-Publish.is (
        h.2,
        (
          h.0,
          h.3,
          if_failed c.publish_in_folder-status.result h.0 _ h.1
              c.publish_in_folder-status.ensures.cause,
        ),
        why.0,
      ),
      why.1,
      why.2,
    )) c.result_at-in-Publish.ensures.err

pub returns-in-Convert-clause-ok : goal.returns-in-Convert-clause-ok
returns-in-Convert-clause-ok g c =
    ran c.args.limits c.args.command _ _ _ _ _ _ _ c.convert_command.result c.in-Convert.is
    (refl, c.convert_command.ensures)

pub returns-in-Completions-clause-ok : goal.returns-in-Completions-clause-ok
returns-in-Completions-clause-ok g c =
    ran c.args.limits c.args.command _ _ _ _ _ _ _ c.completions_command.result c.in-Completions.is
    (refl, c.completions_command.ensures)
