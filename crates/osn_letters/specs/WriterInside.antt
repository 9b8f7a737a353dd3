-- What a writer of rows holds.
use Rattle.std.specs.Prelude.{◌≡◌, ℕ, true, false, List, ◌++◌}
use Rattle.csv.specs.declared.writer.WriterBuilder.{WriterBuilder}
use Rattle.csv.specs.Writing.{with_flexible, writer_setup, writer_under}
use Rattle.csv.specs.Writing.{writer_pending, fields_written, has_written}
use Rattle.osn_letters.specs.declared.csv_text.RowWriter.{RowWriter}
use Rattle.osn_letters.specs.declared.separator.Separator.{Separator}
use Rattle.osn_letters.specs.Separators.{writer_by}

-- how rows are written: by the kit's own settings except for the separator, each with any number of
-- fields
abbrev pub row_setup : Separator → WriterBuilder
row_setup separator = with_flexible (writer_by separator) true

-- the text that waits
abbrev pub waiting : RowWriter → List ℕ
waiting w = (writer_under w.out).items ++ writer_pending w.out

-- a writer of rows is between two of them
pub record IsBetweenRows (w : RowWriter) : Type 0 where
  pub setup : writer_setup w.out ≡ row_setup w.separator
  pub fields : fields_written w.out ≡ 0
  pub wrote : has_written w.out ≡ false
