use Rattle.std.proofs.Common.{inr}
use Rattle.osn_lines.specs.Streams.{input_of}
use Rattle.osn_commands.proofs.in_folder.plan_by.Goals as goal

pub returns-in-Ok : goal.returns-in-Ok
returns-in-Ok g c =
    let found = c.in-Ok in
    let left = c.plan_command.new.text in
    inr (
      found.ensures.ok,
      input_of g.D.File.Source.remaining g.D.File.Source.has_failed found.file left,
      (found.ensures.file, (λ e. (left, e))),
      c.plan_command.ensures,
    )
