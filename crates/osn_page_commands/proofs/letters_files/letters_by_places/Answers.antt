use Rattle.std.proofs.Common.{inl, inr, refl}
use Rattle.osn_lines.specs.Streams.{input_of}
use Rattle.osn_page_commands.proofs.letters_files.letters_by_places.Goals as goal

pub returns-in-Ok-read_places : goal.returns-in-Ok-read_places
returns-in-Ok-read_places g c =
    let found = c.in-Ok in
    let left = c.read_places.new.source in
    let read = c.in-Ok-read_places in
    inr (
      found.ensures.ok,
      input_of g.D.File.Source.remaining g.D.File.Source.has_failed found.table left,
      (found.ensures.file, (λ e. (left, e))),
      inr (read.places, read.ensures.value, c.letters_command.ensures),
    )

pub returns : goal.returns
returns g c =
    let found = c.in-Ok in
    let left = c.read_places.new.source in
    let read = c.in-Err-read_places in
    inr (
      found.ensures.ok,
      input_of g.D.File.Source.remaining g.D.File.Source.has_failed found.table left,
      (found.ensures.file, (λ e. (left, e))),
      inl (
        read.fault,
        (read.ensures.fault, read.ensures.source),
        refl,
        c.report_places.ensures,
      ),
    )
