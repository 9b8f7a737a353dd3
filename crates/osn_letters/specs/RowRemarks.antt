-- The remarks of each row of a table, and its tally. This project's profile.
use Rattle.std.specs.Prelude.{ℕ, List, [], ◌∷◌, length, Option, Some, None, Result, Ok, Err}
use Rattle.osn_letters.specs.declared.columns.Columns.{Columns}
use Rattle.osn_letters.specs.declared.fault.LettersFault.{LettersFault}
use Rattle.osn_letters.specs.declared.record_flaw.RecordFlaw.{RecordFlaw}
use Rattle.osn_letters.specs.declared.remark.Remark.{Remark}
use Rattle.osn_letters.specs.Columns.{columns_of, own_header}
use Rattle.osn_letters.specs.Records.{PlacedRecord, records_of}
use Rattle.osn_letters.specs.Table.{TableBasis, flawed_letter, letter_of, row_flaw}
use Rattle.osn_letters.specs.Tally.{IsTally, TallyModel}

-- the remarks of the fields of a record, by its flaw, if it has one
abbrev pub remarks_of : TableBasis → Columns → List (List ℕ) → Option RecordFlaw → List Remark
remarks_of s columns record_fields None = (letter_of s columns record_fields).remarks
remarks_of s columns record_fields (Some flaw) = (flawed_letter s flaw).remarks

-- the remarks of a record, unless it has a fault, before those of the records after it
abbrev pub remarks_by : TableBasis → Columns → ℕ → Option RecordFlaw
    → Result (List (List ℕ)) LettersFault → List (List Remark) → List (List Remark)
remarks_by s columns width flaw (Err fault) more = more
remarks_by s columns width flaw (Ok record_fields) more =
    remarks_of s columns record_fields (row_flaw width flaw record_fields) ∷ more

-- the remarks of each record after the header, which has as many fields
abbrev pub rows_remarks : TableBasis → Columns → ℕ → List PlacedRecord → List (List Remark)
rows_remarks s columns width [] = []
rows_remarks s columns width (r ∷ rest) =
    remarks_by s columns width r.flaw r.fields (rows_remarks s columns width rest)

-- of those after a header with these columns and as many fields
abbrev pub header_remarks : TableBasis → Result Columns LettersFault → ℕ → List PlacedRecord
    → List (List Remark)
header_remarks s (Err fault) width rest = []
header_remarks s (Ok columns) width rest = rows_remarks s columns width rest

-- of those after the first record, which is the header
abbrev pub first_remarks : TableBasis → ℕ → Result (List (List ℕ)) LettersFault
    → List PlacedRecord → List (List Remark)
first_remarks s line (Err fault) rest = []
first_remarks s line (Ok header) rest =
    header_remarks s (columns_of s.names line (own_header s.names header)) (length header) rest

-- the remarks of each row of a table
abbrev pub table_remarks : TableBasis → List PlacedRecord → List (List Remark)
table_remarks s [] = []
table_remarks s (r ∷ rest) = first_remarks s r.line r.fields rest

-- the remarks of each row of a CSV text whose table is written whole
abbrev pub letters_remarks : TableBasis → List ℕ → List (List Remark)
letters_remarks s text = table_remarks s (records_of s.keeps_going s.separator text)

-- the tally of that table
abbrev pub IsTallyOf : TableBasis → List ℕ → TallyModel → Type 0
IsTallyOf s text tally = IsTally (letters_remarks s text) tally
