-- What a table writes of the records that it takes.
use Rattle.std.specs.Prelude.{◌≡◌, ◌≢◌, ℕ, false, List, [], ◌∷◌, ◌++◌, Option, Some, None}
use Rattle.std.specs.Prelude.{Ok}
use Rattle.osn_days.specs.Rules.{newest_rules}
use Rattle.osn_letters.specs.declared.separator.Separator.{Separator}
use Rattle.osn_letters.specs.declared.table.Rows.{Rows}
use Rattle.osn_letters.specs.declared.table.Table.{Table}
use Rattle.osn_letters.specs.declared.fault.LettersFault.{LettersFault}
use Rattle.osn_letters.specs.declared.fault.LettersFault.TheVariants.{NoMemory}
use Rattle.osn_letters.specs.declared.record_flaw.RecordFlaw.{RecordFlaw}
use Rattle.osn_letters.specs.Faults.{is_of_stream}
use Rattle.osn_letters.specs.Records.{PlacedRecord}
use Rattle.osn_letters.specs.Table.{TableBasis, basis, Heading, Written, written_from, text_before}
use Rattle.osn_letters.specs.Table.{ended_by}
use Rattle.osn_letters.specs.RowRemarks.{letters_remarks, rows_remarks, table_remarks}
use Rattle.osn_letters.specs.Tally.{TallyModel}
use Rattle.osn_letters.specs.TallyInside.{no_rows, with_rows}
use Rattle.osn_letters.specs.WriterInside.{waiting}

-- by what it is made
abbrev pub source_of : Table → TableBasis
source_of t = basis newest_rules t.territories t.edition t.settings

-- what the header said, if it came
abbrev pub heading_by : Separator → Option Rows → Option Heading
heading_by separator None = None
heading_by separator (Some rows) = Some (record {
  columns = rows.columns;
  width = rows.width;
  separator = separator;
})

abbrev pub heading_of : Table → Option Heading
heading_of t = heading_by t.out.separator t.rows

-- what it writes of more records
abbrev pub written_of : Table → List PlacedRecord → Written
written_of t records = written_from (source_of t) (heading_of t) records

-- a record with these fields
abbrev pub taken_record : ℕ → Separator → Option RecordFlaw → List (List ℕ) → PlacedRecord
taken_record line separator flaw record_fields = record {
  line = line;
  separator = separator;
  flaw = flaw;
  fields = Ok record_fields;
}

-- of these records, a text was written, and the table goes on
pub record TakesRecords (old new : Table) (taken : List PlacedRecord) : Type 0 where
  pub text : List ℕ
  pub out : waiting new.out ≡ waiting old.out ++ text
  pub source : source_of new ≡ source_of old
  pub goes : (more : List PlacedRecord) → written_of old (taken ++ more)
      ≡ text_before text (written_of new more)

-- a record was not taken, by that fault or because memory ran out, and nothing was written of it.
-- If memory ran out, it is not known what waits
abbrev pub RefusesRecord : Table → Table → PlacedRecord → LettersFault → Type 0
RefusesRecord old new r fault = (is_of_stream fault ≡ false)
    × ((fault ≢ NoMemory)
    → (waiting new.out ≡ waiting old.out)
    × ((more : List PlacedRecord) → written_of old (r ∷ more) ≡ ended_by fault))

-- a record after the header was taken, or was not by that fault, whatever separated its fields
abbrev pub TakesRow : Table → Table → ℕ → Option RecordFlaw → List (List ℕ) → Type 0
TakesRow old new line flaw record_fields = (separator : Separator) →
    TakesRecords old new (taken_record line separator flaw record_fields ∷ [])

abbrev pub RefusesRow : Table → Table → ℕ → Option RecordFlaw → List (List ℕ) → LettersFault
    → Type 0
RefusesRow old new line flaw record_fields fault = (separator : Separator) →
    RefusesRecord old new (taken_record line separator flaw record_fields) fault

-- ---- remarks

-- the tally of the rows so far and of those of more records
abbrev pub tally_with : TableBasis → Option Rows → TallyModel → List PlacedRecord → TallyModel
tally_with s None tally records = with_rows tally (table_remarks s records)
tally_with s (Some rows) tally records =
    with_rows tally (rows_remarks s rows.columns rows.width records)

abbrev pub tally_of : Table → List PlacedRecord → TallyModel
tally_of t records = tally_with (source_of t) t.rows t.tally records

-- a record was taken, and it is counted
abbrev pub CountsRecord : Table → Table → PlacedRecord → Type 0
CountsRecord old new r = (more : List PlacedRecord) → tally_of old (r ∷ more) ≡ tally_of new more

-- a record after the header was taken, and it is counted, whatever separated its fields
abbrev pub CountsRow : Table → Table → ℕ → Option RecordFlaw → List (List ℕ) → Type 0
CountsRow old new line flaw record_fields = (separator : Separator) →
    CountsRecord old new (taken_record line separator flaw record_fields)

-- the tally of a whole text
abbrev pub letters_tally : TableBasis → List ℕ → TallyModel
letters_tally s text = with_rows no_rows (letters_remarks s text)
