-- The table that is written: the header and each record that came, with twelve fields after it.
-- This project's profile.
use Rattle.std.specs.Prelude.{◌≡◌, ◌≤◌, ℕ, zero, suc, ◌-◌, Bool, true, ◌==◌, List, [], ◌∷◌}
use Rattle.std.specs.Prelude.{◌++◌, length, get_or, take}
use Rattle.std.specs.Prelude.{if◌then◌else◌}
use Rattle.std.specs.Prelude.{Option, Some, None, option_map, unwrap_or, Result, Ok, Err}
use Rattle.std.specs.Io.KnownBytes.{Appends, Consumes}
use Rattle.csv.specs.Writing.{row_text}
use Rattle.osn_days.specs.Rules.{Rules}
use Rattle.osn_grammar.specs.declared.text_reading.DateOrder.{DateOrder}
use Rattle.osn_register.specs.Plain.{EntryModel}
use Rattle.osn_letters.specs.declared.columns.Columns.{Columns}
use Rattle.osn_letters.specs.declared.record_flaw.RecordFlaw.{RecordFlaw}
use Rattle.osn_letters.specs.declared.record_flaw.RecordFlaw.TheVariants.{FieldCount}
use Rattle.osn_letters.specs.declared.remark.Remark.TheVariants.{OfRecord}
use Rattle.osn_letters.specs.declared.separator.Separator.{Separator}
use Rattle.osn_letters.specs.declared.settings.TableSettings.{TableSettings}
use Rattle.osn_letters.specs.declared.fault.LettersFault.{LettersFault}
use Rattle.osn_letters.specs.declared.fault.LettersFault.TheVariants.{NoHeader, BadRecord}
use Rattle.osn_letters.specs.AddedColumns.{added_names}
use Rattle.osn_letters.specs.Columns.{NameTexts, names_of, columns_of, own_header, place_in}
use Rattle.osn_letters.specs.DateParts.{date_in}
use Rattle.osn_letters.specs.Faults.{is_of_table}
use Rattle.osn_letters.specs.Fields.{FieldsAndRemarks, fields_of_none, row_fields}
use Rattle.osn_letters.specs.PlaceEntries.{PlaceEntry}
use Rattle.osn_letters.specs.Records.{PlacedRecord, records_of}
use Rattle.osn_letters.specs.Separators.{writer_by}

-- what a table is made from: the rules, the territories and the number of their edition; the names
-- of the columns that are read, and what separates the fields, if it is named; whether a date
-- begins with its day or its month if it may be either; the entries of the table of places; and
-- whether the table goes on after a record that has a flaw
pub record TableBasis : Type 0 where
  pub rules : Rules
  pub territories : List EntryModel
  pub edition : ℕ
  pub names : NameTexts
  pub separator : Option Separator
  pub order : DateOrder
  pub places : List PlaceEntry
  pub keeps_going : Bool

abbrev pub basis : Rules → List EntryModel → ℕ → TableSettings → TableBasis
basis p territories edition settings = record {
  rules = p;
  territories = territories;
  edition = edition;
  names = names_of settings.names;
  separator = settings.separator;
  order = settings.order;
  places = unwrap_or (option_map (λ places. places.now) settings.places) [];
  keeps_going = settings.keeps_going;
}

-- what the header says of the records after it: the columns that are read, how many fields each
-- has, and what separates these
pub record Heading : Type 0 where
  pub columns : Columns
  pub width : ℕ
  pub separator : Separator

-- what is written, and the fault by which the table ended early, if it did
pub record Written : Type 0 where
  pub text : List ℕ
  pub fault : Option LettersFault

-- all of it
abbrev pub whole : Written
whole = record { text = []; fault = None }

-- nothing, for a fault
abbrev pub ended_by : LettersFault → Written
ended_by fault = record { text = []; fault = Some fault }

-- a text before what is written
abbrev pub text_before : List ℕ → Written → Written
text_before text written = record { text = text ++ written.text; fault = written.fault }

-- the header that is written
abbrev pub header_text : Separator → List (List ℕ) → List ℕ
header_text separator header = row_text (writer_by separator) (header ++ added_names)

-- what is said of a record, with the text of its date: the twelve fields, and the remarks
abbrev pub letter_with_date : TableBasis → Columns → List (List ℕ) → List ℕ → FieldsAndRemarks
letter_with_date s columns record_fields date =
    row_fields s.rules s.territories s.edition s.order s.places
    (place_in s.names columns record_fields) date
    (option_map (λ n. get_or record_fields n []) columns.weekday)

abbrev pub letter_of : TableBasis → Columns → List (List ℕ) → FieldsAndRemarks
letter_of s columns record_fields =
    letter_with_date s columns record_fields (date_in columns.date record_fields)

-- the twelve fields of a record
abbrev pub twelve_fields : TableBasis → Columns → List (List ℕ) → List (List ℕ)
twelve_fields s columns record_fields = (letter_of s columns record_fields).fields

-- the row that is written of a record: its own fields and the twelve
unfoldable pub letter_text : TableBasis → Separator → Columns → List (List ℕ) → List ℕ
letter_text s separator columns record_fields =
    row_text (writer_by separator)
    (take columns.own record_fields ++ twelve_fields s columns record_fields)

-- the flaw of a record that is not a header, with its own if it has one
abbrev pub row_flaw : ℕ → Option RecordFlaw → List (List ℕ) → Option RecordFlaw
row_flaw width (Some flaw) record_fields = Some flaw
row_flaw width None record_fields =
    if length record_fields == width then None else Some FieldCount

-- what is said of a record that has a flaw: no day, and the flaw
abbrev pub flawed_letter : TableBasis → RecordFlaw → FieldsAndRemarks
flawed_letter s flaw = fields_of_none s.edition None ((true, OfRecord flaw) ∷ [])

-- this many fields of a record from an index on. A field that is lacking is empty
abbrev pub fields_from : List (List ℕ) → ℕ → ℕ → List (List ℕ)
fields_from record_fields start zero = []
fields_from record_fields start (suc n) =
    get_or record_fields start [] ∷ fields_from record_fields (suc start) n

-- the row that is written of a record that has a flaw: as many fields as the header has of its own,
-- the twelve, and then the fields for which the header has no name
unfoldable pub flawed_text : TableBasis → Heading → RecordFlaw → List (List ℕ) → List ℕ
flawed_text s heading flaw record_fields =
    row_text (writer_by heading.separator)
    (fields_from record_fields 0 heading.columns.own
    ++ ((flawed_letter s flaw).fields
    ++ fields_from record_fields heading.width (length record_fields - heading.width)))

-- what is written of the fields of a record by its flaw, if it has one
abbrev pub row_of : TableBasis → Heading → ℕ → List (List ℕ) → Option RecordFlaw → Written
    → Written
row_of s heading line record_fields None more =
    text_before (letter_text s heading.separator heading.columns record_fields) more
row_of s heading line record_fields (Some flaw) more =
    if s.keeps_going then text_before (flawed_text s heading flaw record_fields) more
    else ended_by (BadRecord line (length record_fields) heading.width)

-- what is written of a record that is not a header, and then what is written of those after it
abbrev pub row_by : TableBasis → Heading → ℕ → Option RecordFlaw
    → Result (List (List ℕ)) LettersFault → Written → Written
row_by s heading line flaw (Err fault) more = ended_by fault
row_by s heading line flaw (Ok record_fields) more =
    row_of s heading line record_fields (row_flaw heading.width flaw record_fields) more

-- what is written of the records after the header
abbrev pub rows_written : TableBasis → Heading → List PlacedRecord → Written
rows_written s heading [] = whole
rows_written s heading (r ∷ rest) =
    row_by s heading r.line r.flaw r.fields (rows_written s heading rest)

-- what is written of a header with these columns, and of the records after it. The records have as
-- many fields as the whole header
abbrev pub header_at : TableBasis → Result Columns LettersFault → Separator → List (List ℕ)
    → List PlacedRecord → Written
header_at s (Err fault) separator header rest = ended_by fault
header_at s (Ok columns) separator header rest =
    text_before (header_text separator (own_header s.names header))
    (rows_written s (record { columns = columns; width = length header; separator = separator })
    rest)

-- what is written of the first record, which is the header, and of those after it
abbrev pub header_by : TableBasis → ℕ → Separator → Result (List (List ℕ)) LettersFault
    → List PlacedRecord → Written
header_by s line separator (Err fault) rest = ended_by fault
header_by s line separator (Ok header) rest =
    header_at s (columns_of s.names line (own_header s.names header)) separator header rest

-- what is written of all records. Without any record the header is lacking
abbrev pub table_written : TableBasis → List PlacedRecord → Written
table_written s [] = ended_by NoHeader
table_written s (r ∷ rest) = header_by s r.line r.separator r.fields rest

-- what is written of a text of CSV
abbrev pub letters_written : TableBasis → List ℕ → Written
letters_written s text = table_written s (records_of s.keeps_going s.separator text)

-- what is written of more records, before the header or after it
abbrev pub written_from : TableBasis → Option Heading → List PlacedRecord → Written
written_from s None records = table_written s records
written_from s (Some heading) records = rows_written s heading records

-- all of the text was written, and no fault ended it
abbrev pub IsWhole : Option (List ℕ) → Option (List ℕ) → Written → Type 0
IsWhole old new written = (written.fault ≡ None) × Appends old new written.text

-- a beginning of the text was written, and all of it if the fault is one of the table
pub record EndsEarly (old new : Option (List ℕ)) (written : Written) (fault : LettersFault)
    : Type 0 where
  pub text : List ℕ
  pub appended : Appends old new text
  pub rest : Written
  pub begins : written ≡ text_before text rest
  pub ended : is_of_table fault ≡ true → rest ≡ ended_by fault

-- of what was read, with some bytes after it, all was written
pub record EndsRead (input left old new : Option (List ℕ)) (all : List ℕ → Written) : Type 0 where
  pub read : List ℕ
  pub more : List ℕ
  pub consumed : Consumes input left read
  pub appended : Appends old new (all (read ++ more)).text

-- the text has as many bytes as there are writes for it
abbrev pub IsLong : Written → Type 0
IsLong written = 4294967295 ≤ length written.text
