-- What is written of the bytes that letters are read from.
use Rattle.std.specs.Prelude.{◌≡◌, ℕ, List, [], ◌++◌, Bool, true, false, Option}
use Rattle.std.specs.Prelude.{Result, Ok, Err, is_ok}
use Rattle.std.specs.Io.KnownBytes.{Appends}
use Rattle.csv.specs.Records.{partial_of}
use Rattle.osn_letters.specs.declared.csv_text.RowWriter.{RowWriter}
use Rattle.osn_letters.specs.declared.letters.Letters.{Letters}
use Rattle.osn_letters.specs.declared.fault.LettersFault.{LettersFault}
use Rattle.osn_letters.specs.Records.{records_from}
use Rattle.osn_letters.specs.RecordsInside.{reading_of}
use Rattle.osn_letters.specs.ByteOrderMark.{unmarked}
use Rattle.osn_letters.specs.Table.{Written, text_before, ended_by, EndsEarly, IsLong}
use Rattle.osn_letters.specs.Faults.{is_of_table, is_of_stream, EndsStream, is_write_fault}
use Rattle.osn_letters.specs.TableInside.{tally_of, written_of}
use Rattle.osn_letters.specs.Tally.{TallyModel}
use Rattle.osn_letters.specs.WriterInside.{IsBetweenRows, waiting}

-- the current record has no part of a field, and what waits ends between two rows
pub record IsReady (s : Letters) : Type 0 where
  pub partial : partial_of s.parser.fields ≡ []
  pub between : IsBetweenRows s.table.out

-- what is written of more bytes after the beginning, up to the end of the text
abbrev pub text_after : Letters → List ℕ → Written
text_after s bytes = written_of s.table (records_from (reading_of s.parser) bytes)

-- what is written of more bytes, from which a byte order mark at the beginning of the text is
-- removed
abbrev pub text_from : Letters → List ℕ → Written
text_from s bytes = text_after s (unmarked s.start bytes)

-- what waits grew by the first part of what is written, and this is the rest
pub record Wrote (old new : List ℕ) (written rest : Written) : Type 0 where
  pub text : List ℕ
  pub out : new ≡ old ++ text
  pub begins : written ≡ text_before text rest

-- the bytes were taken: what is written of them and of more is what waits, and what is written then
-- of more
abbrev pub TakesBytes : Letters → Letters → List ℕ → Type 0
TakesBytes old new bytes = (more : List ℕ) →
    Wrote (waiting old.table.out) (waiting new.table.out)
    (text_from old (bytes ++ more)) (text_from new more)

-- bytes after the beginning were taken: what is written of them and of more is what waits, and what
-- is written then of more
abbrev pub TakesAfter : Letters → Letters → List ℕ → Type 0
TakesAfter old new bytes = (more : List ℕ) →
    Wrote (waiting old.table.out) (waiting new.table.out)
    (text_after old (bytes ++ more)) (text_after new more)

-- what waits grew by all that is written, if the fault is one of the table. If memory ran out, it
-- is not known
pub record Stops (old new : List ℕ) (written : Written) (fault : LettersFault) : Type 0 where
  pub inner : is_of_stream fault ≡ false
  pub wrote : is_of_table fault ≡ true → Wrote old new written (ended_by fault)

-- some bytes were not all taken, by that fault
abbrev pub StopsAt : Letters → Letters → List ℕ → LettersFault → Type 0
StopsAt old new bytes fault = (more : List ℕ) →
    Stops (waiting old.table.out) (waiting new.table.out) (text_from old (bytes ++ more)) fault

-- some bytes after the beginning were not all taken, by that fault
abbrev pub StopsAfter : Letters → Letters → List ℕ → LettersFault → Type 0
StopsAfter old new bytes fault = (more : List ℕ) →
    Stops (waiting old.table.out) (waiting new.table.out) (text_after old (bytes ++ more)) fault

-- whether it is known what waits of what was taken: it is not if memory ran out
abbrev pub is_known : {T : Type 0} → Result T LettersFault → Bool
is_known (Ok x) = true
is_known (Err fault) = is_of_table fault

-- what waits is a first part of what is written, if it is known, and all of it if a fault of the
-- table ended it
abbrev pub Waits : {T : Type 0} → List ℕ → Result T LettersFault → Written → Type 0
Waits out (Ok x) written = (rest : Written) × Wrote [] out written rest
Waits out (Err fault) written = Stops [] out written fault

-- all was taken, what waited was written, and nothing waits
pub record WritesAll {T : Type 0} (c d : Option (List ℕ)) (old new : RowWriter)
    (taken : Result T LettersFault) : Type 0 where
  pub took : is_ok taken ≡ true
  pub appended : Appends c d (waiting old)
  pub separator : new.separator ≡ old.separator
  pub empty : waiting new ≡ []
  pub between : IsBetweenRows new

-- the bytes were taken, and what came of them was written
pub record Passes (old new : Option (List ℕ)) (written rest : Written) : Type 0 where
  pub text : List ℕ
  pub appended : Appends old new text
  pub begins : written ≡ text_before text rest

abbrev pub PassesBytes : Option (List ℕ) → Option (List ℕ) → Letters → Letters → List ℕ → Type 0
PassesBytes c d old new bytes = (more : List ℕ) →
    Passes c d (text_from old (bytes ++ more)) (text_from new more)

-- some bytes ended the table by that fault
abbrev pub EndsBytes : Option (List ℕ) → Option (List ℕ) → Letters → List ℕ → LettersFault → Type 0
EndsBytes c d old bytes fault =
    (more : List ℕ) → EndsEarly c d (text_from old (bytes ++ more)) fault

-- whether the sink failed, if some bytes ended the table by that fault
abbrev pub SinkEnds : Bool → Bool → Letters → List ℕ → LettersFault → Type 0
SinkEnds before now old bytes fault =
    EndsStream (is_write_fault fault) before now
    ((more : List ℕ) → IsLong (text_from old (bytes ++ more)))

-- ---- the tally

-- the tally of the rows so far and of those of more bytes after the beginning, up to the end of the
-- text
abbrev pub tally_after : Letters → List ℕ → TallyModel
tally_after s bytes = tally_of s.table (records_from (reading_of s.parser) bytes)

-- the tally of the rows so far and of those of more bytes, from which a byte order mark at the
-- beginning of the text is removed
abbrev pub tally_from : Letters → List ℕ → TallyModel
tally_from s bytes = tally_after s (unmarked s.start bytes)

-- the bytes were taken, and their rows are counted
abbrev pub CountsAfter : Letters → Letters → List ℕ → Type 0
CountsAfter old new bytes = (more : List ℕ) → tally_after old (bytes ++ more)
    ≡ tally_after new more

abbrev pub CountsBytes : Letters → Letters → List ℕ → Type 0
CountsBytes old new bytes = (more : List ℕ) → tally_from old (bytes ++ more)
    ≡ tally_from new more
