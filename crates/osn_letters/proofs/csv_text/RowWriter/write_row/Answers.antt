use Rattle.std.proofs.Common.{◌≢◌, ◌∙◌, ◌++◌, ap}
use Rattle.csv.specs.Records.{fields_of}
use Rattle.csv.specs.declared.writer.QuoteStyle.TheVariants as style
use Rattle.osn_letters.specs.Separators.{writer_by}
use Rattle.osn_letters.specs.WriterInside.{waiting}
use Rattle.osn_letters.proofs.RowFacts.{same_row}
use Rattle.osn_letters.proofs.csv_text.RowWriter.write_row.Goals as goal
use Rattle.osn_letters.proofs.csv_text.RowWriter.write_row.Goals.{in-Ok, in-Err}

pub returns-clause-text : goal.returns-clause-text
returns-clause-text c =
    let out = c.args.self.now in
    let plain : out.out.cfg.style ≢ style.NonNumeric = rw c.requires.setup (λ e. cc e) in
    elim c.match-write_byte_record.branch [
      | in-Ok w ↦ let h = w.in-Ok.ensures.bytes c.requires.fields c.requires.wrote plain in
          rw w.result-is ((rw c.requires.setup at h)
          ∙ ap (λ l. waiting out ++ l) (same_row (writer_by out.separator)
          (fields_of c.args.row.now)))
      | in-Err w ↦ rw w.result-is tt
    ]
