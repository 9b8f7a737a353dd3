use Rattle.osn_lines.specs.Streams.{input_of}
use Rattle.osn_commands.proofs.check.check_in_folder.Goals as goal

pub returns-clause-ok : goal.returns-clause-ok
returns-clause-ok g c =
    let found = c.in_ok-file in
    let left = c.check_command.new.text in (
      found.ensures.ok,
      input_of g.D.File.Source.remaining g.D.File.Source.has_failed found.file left,
      (found.ensures.file, (λ e. (left, e))),
      c.check_command.ensures,
    )
