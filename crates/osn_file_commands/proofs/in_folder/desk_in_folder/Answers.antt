use Rattle.osn_folder.specs.Folder.{MayFail}
use Rattle.osn_lines.specs.Streams.{input_of}
use Rattle.osn_report.specs.Folders.{folders_of}
use Rattle.osn_file_commands.specs.Transcript.{TranscribesNot}
use Rattle.osn_file_commands.proofs.FailLemmas.{failed_on_two}
use Rattle.osn_file_commands.proofs.in_folder.desk_in_folder.Goals as goal

pub returns-in-Ok-clause-ok : goal.returns-in-Ok-clause-ok
returns-in-Ok-clause-ok g c =
    let found = c.in_ok-editor in
    let left = c.desk_command.new in
    let remaining = g.D.File.Source.remaining in
    let has_failed = g.D.File.Source.has_failed in (
      found.ensures.ok,
      input_of remaining has_failed found.editor left.script,
      (found.ensures.first, (λ e. (left.script, e))),
      input_of remaining has_failed found.readers left.questions,
      (found.ensures.second, (λ e. (left.questions, e))),
      c.in-Ok.ensures.ok,
    )

pub returns-clause-err : goal.returns-clause-err
returns-clause-err g c =
    let found = c.in_ok-editor in
    let left = c.desk_command.new in
    let remaining = g.D.File.Source.remaining in
    let has_failed = g.D.File.Source.has_failed in
    failed_on_two c.args.script.now c.args.questions.now _ (MayFail has_failed)
    (folders_of g.D.Folder.known c.args.folder.now c.open_both.new.folder)
    (TranscribesNot c.args.limits) _ c.in-Err.fault c.failed.result
    (input_of remaining has_failed found.editor left.script)
    (input_of remaining has_failed found.readers left.questions) found.ensures.ok
    (found.ensures.first, (λ e. (left.script, e)))
    (found.ensures.second, (λ e. (left.questions, e)))
    c.failed.ensures c.in-Err.ensures.err c.failure_of_two.ensures.path
    c.failure_of_two.ensures.fault
