use Rattle.std.proofs.Common.{arith, lt-ltb, refl}
use Rattle.std.proofs.lemmas.Bool.{le-ltb}
use Rattle.osn_lines.specs.Streams.{input_of}
use Rattle.osn_commands.proofs.diff_folder.numbered_diff_in_folder.Goals as goal

pub returns-then-to-from-clause-ok : goal.returns-then-to-from-clause-ok
returns-then-to-from-clause-ok g c =
    rw (lt-ltb c.args.to c.args.from (omega arith)) (refl, refl, c.report_backward.ensures)

pub returns-clause-ok : goal.returns-clause-ok
returns-clause-ok g c =
    let found = c.in_ok-file in
    let left = c.diff_command.new.journal in
    rw (le-ltb c.args.to c.args.from (omega arith)) (
      found.ensures.ok,
      input_of g.D.File.Source.remaining g.D.File.Source.has_failed found.file left,
      (found.ensures.file, (λ e. (left, e))),
      c.diff_command.ensures,
    )
