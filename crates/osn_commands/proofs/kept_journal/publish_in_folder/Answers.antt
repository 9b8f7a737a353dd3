use Rattle.std.proofs.Common.{inl, inr, refl}
use Rattle.osn_lines.specs.Streams.{input_of}
use Rattle.osn_commands.proofs.kept_journal.publish_in_folder.Goals as goal

pub returns-in-Ok-clause-ok : goal.returns-in-Ok-clause-ok
returns-in-Ok-clause-ok g c =
    let found = c.in_ok-file in
    let left = c.read_register_text.new.text in
    record {
      opened = g.D.Folder.known c.open_file.new.folder;
      opens = found.ensures.ok;
      text = input_of g.D.File.Source.remaining g.D.File.Source.has_failed found.file left;
      reads = (found.ensures.file, (λ e. (left, e)));
      ended = inr (
        c.in-Ok.register_text.edition,
        c.in-Ok.register_text.register,
        c.in-Ok.ensures.ok,
        c.keep_and_publish.ensures,
      );
    }

pub returns-clause-ok : goal.returns-clause-ok
returns-clause-ok g c =
    let found = c.in_ok-file in
    let left = c.read_register_text.new.text in
    record {
      opened = g.D.Folder.known c.open_file.new.folder;
      opens = found.ensures.ok;
      text = input_of g.D.File.Source.remaining g.D.File.Source.has_failed found.file left;
      reads = (found.ensures.file, (λ e. (left, e)));
      ended = inl (refl, (c.in-Err.fault, c.in-Err.ensures.err, refl, c.report_text_file.ensures));
    }
