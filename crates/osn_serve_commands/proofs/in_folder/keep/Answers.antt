use Rattle.std.proofs.Common.{inl, inr, refl}
use Rattle.osn_journal.specs.KeptJournal.{file_of}
use Rattle.osn_lines.specs.Streams.{input_of}
use Rattle.osn_serve_commands.proofs.in_folder.keep.Goals as goal

pub returns-in-Ok : goal.returns-in-Ok
returns-in-Ok g c =
    let file = g.D.Keeper.KeptFile in
    let state = file_of file.contents file.synced file.fault in
    let journal = c.keep_command-status.new.journal in
    inr (
      g.D.Folder.known c.keep.new.self,
      c.in-Ok.ensures.ok,
      state c.in-Ok.keeper,
      c.in-Ok.ensures.contents,
      c.in-Ok.ensures.sound.0,
      input_of g.D.File.Source.remaining g.D.File.Source.has_failed c.in-Ok.journal journal,
      c.in-Ok.ensures.source,
      (λ yes. (journal, yes)),
      state c.keep_command-status.new.keeper,
      c.keep_command-status.ensures,
      c.release.ensures,
    )

pub returns-in-Err : goal.returns-in-Err
returns-in-Err g c =
    inl (c.in-Err.fault, c.in-Err.ensures.err, (refl, c.report_at.ensures))
