use Rattle.std.proofs.Common.{inr}
use Rattle.osn_lines.specs.Streams.{input_of}
use Rattle.osn_commands.proofs.letters_table.letters_of_file.Goals as goal

pub returns-in-Ok : goal.returns-in-Ok
returns-in-Ok g c =
    let found = c.in-Ok in
    let left = c.letters_of_opened.new.table in
    inr (
      g.D.Folder.known c.open_file.new.folder,
      found.ensures.ok,
      input_of g.D.File.Source.remaining g.D.File.Source.has_failed found.table left,
      (found.ensures.file, (λ e. (left, e))),
      c.letters_of_opened.ensures,
    )
