use Rattle.std.proofs.Common.{inl, inr, option_map, refl, string_bytes, subst}
use Rattle.osn_folder.specs.Folder.{Changes, Leaves}
use Rattle.osn_journal.specs.KeptJournal.{file_of}
use Rattle.osn_lines.specs.Streams.{input_of, output_of}
use Rattle.osn_report.specs.Folders.{folders_of}
use Rattle.osn_commands.specs.HindranceCause.{unkept_line}
use Rattle.osn_commands.specs.PublishFolder.{SavesEdition}
use Rattle.osn_commands.proofs.kept_journal.keep_and_publish.Goals as goal

pub returns-in-Ok-publish_result : goal.returns-in-Ok-publish_result
returns-in-Ok-publish_result g c =
    let file = g.D.Keeper.KeptFile in
    let state = file_of file.contents file.synced file.fault in
    let found = c.in-Ok.file in
    let journal = c.publish_command-publish_result.new.journal in
    inr (
      g.D.Folder.known c.keep.new.self,
      c.in-Ok.ensures.ok,
      state found.0,
      c.in-Ok.ensures.contents,
      c.in-Ok.ensures.sound.0,
      input_of g.D.File.Source.remaining g.D.File.Source.has_failed found.1 journal,
      c.in-Ok.ensures.source,
      (λ yes. (journal, yes)),
      inl (
        state c.publish_command-publish_result.new.keeper,
        c.in-Ok-publish_result.ensures.ended,
        c.release.ensures,
      ),
    )

pub returns-in-Err-publish_result : goal.returns-in-Err-publish_result
returns-in-Err-publish_result g c =
    let file = g.D.Keeper.KeptFile in
    let state = file_of file.contents file.synced file.fault in
    let found = c.in-Ok.file in
    let publish = c.publish_command-publish_result in
    let journal = publish.new.journal in
    let older = c.in-Err-publish_result.older in
    let quiet = c.in-Err-publish_result.ensures.quiet in
    let folder = g.D.Folder.known in
    let text = string_bytes older.edition.text in
    let anew = string_bytes older.edition.journal in
    let cut = option_map string_bytes older.cut in
    let path = c.args.request.journal.now in
    let done = folders_of folder c.release.new.self c.save_edition.new.folder in
    let w = g.W.Sink in
    let e = g.E.Sink in
    let output = c.save_edition.new.output in
    let errors = c.save_edition.new.errors in
    let status = c.save_edition.result in
    inr (
      folder c.keep.new.self,
      c.in-Ok.ensures.ok,
      state found.0,
      c.in-Ok.ensures.contents,
      c.in-Ok.ensures.sound.0,
      input_of g.D.File.Source.remaining g.D.File.Source.has_failed found.1 journal,
      c.in-Ok.ensures.source,
      (λ yes. (journal, yes)),
      inr (
        older.bytes.items,
        anew,
        text,
        cut,
        c.in-Err-publish_result.ensures.older,
        folder c.release.new.self,
        subst (λ k. Changes (Leaves path (file.contents k)) (folder c.keep.new.self)
            (folder c.release.new.self)) quiet.0 c.release.ensures,
        subst (λ b. SavesEdition path b anew text cut done
            (output_of w.contents w.has_failed w.holds_back c.args.output.now output)
            (output_of e.contents e.has_failed e.holds_back c.args.errors.now errors) status)
            c.deref.ensures.value
            (subst (λ old. SavesEdition path c.deref.result.now anew text cut done
            (output_of w.contents w.has_failed w.holds_back old output)
            (output_of e.contents e.has_failed e.holds_back c.args.errors.now errors) status)
            quiet.1
            (subst (λ old. SavesEdition path c.deref.result.now anew text cut done
            (output_of w.contents w.has_failed w.holds_back publish.new.output output)
            (output_of e.contents e.has_failed e.holds_back old errors) status) quiet.2
            c.save_edition.ensures)),
      ),
    )

pub returns-in-Err : goal.returns-in-Err
returns-in-Err g c =
    let path = c.args.request.journal.now in
    inl (
      c.cause_of-cause.result,
      (
        c.in-Err.fault,
        g.D.Folder.known c.keep.new.self,
        c.in-Err.ensures.err,
        c.cause_of-cause.ensures,
      ),
      refl,
      c.report_line.ensures (unkept_line path c.cause_of-cause.result) c.unkept_line.ensures,
    )
