use Rattle.osn_lines.specs.Streams.{input_of}
use Rattle.osn_file_commands.proofs.in_folder.replay_in_folder.Goals as goal

pub returns-in-Ok-clause-ok : goal.returns-in-Ok-clause-ok
returns-in-Ok-clause-ok g c =
    let found = c.in_ok-file in
    let left = c.replay_command.new.schedule in (
      found.ensures.ok,
      input_of g.D.File.Source.remaining g.D.File.Source.has_failed found.file left,
      (found.ensures.file, (λ e. (left, e))),
      c.in-Ok.ensures.ok,
    )
