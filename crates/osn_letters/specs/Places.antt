-- The table of places, which says the code of the territory for what the rows of a table of letters
-- call a place. This project's profile.
use Rattle.std.specs.Prelude.{ℕ, ◌==◌, false, if◌then◌else◌, List, [], ◌∷◌, ◌++◌, length, get_or}
use Rattle.std.specs.Prelude.{Option, Some, None, ok_or, Result, Ok, Err}
use Rattle.std.specs.Str.{bytes_eq, str_to_ascii_uppercase}
use Rattle.std.specs.Str.Lossy.{utf8_lossy}
use Rattle.osn_letters.specs.declared.place_columns.PlaceColumns.{PlaceColumns}
use Rattle.osn_letters.specs.declared.places_fault.PlacesColumn.{PlacesColumn}
use Rattle.osn_letters.specs.declared.places_fault.PlacesColumn.TheVariants as column
use Rattle.osn_letters.specs.declared.places_fault.PlacesFault.{PlacesFault}
use Rattle.osn_letters.specs.declared.places_fault.PlacesFault.TheVariants.{NoHeader, LacksColumn}
use Rattle.osn_letters.specs.declared.places_fault.PlacesFault.TheVariants.{BadRecord, NotUtf8}
use Rattle.osn_letters.specs.declared.places_fault.PlacesFault.TheVariants.{TwoCodes}
use Rattle.osn_grammar.specs.Simple.{◌>>=◌}
use Rattle.osn_letters.specs.Columns.{column_named, names_text}
use Rattle.osn_letters.specs.PlaceEntries.{PlaceEntry, code_of}
use Rattle.osn_letters.specs.PlacesFaults.{column_name, of_record}
use Rattle.osn_letters.specs.Records.{PlacedRecord, records_of}
use Rattle.osn_letters.specs.RowFields.{text_in_field}

-- ---- the header

-- a header on that line lacks a column
abbrev pub lacks : ℕ → List (List ℕ) → PlacesColumn → PlacesFault
lacks line header column = LacksColumn column line (utf8_lossy (names_text header))

-- the index of a column
abbrev pub column_in : ℕ → List (List ℕ) → PlacesColumn → Result ℕ PlacesFault
column_in line header column =
    ok_or (column_named (column_name column) header) (lacks line header column)

-- the columns of the place and of the code, and how many fields there are
abbrev pub columns_in : ℕ → List (List ℕ) → Result PlaceColumns PlacesFault
columns_in line header =
    column_in line header column.Place
    >>= λ place. column_in line header column.Code
    >>= λ code. Ok (record { place = place; code = code; width = length header })

-- ---- the records after it

-- the entry of a place and a code, if both are texts. The code may be in small letters
abbrev pub entry_of : ℕ → Option (List ℕ) → Option (List ℕ) → Result PlaceEntry PlacesFault
entry_of line None code = Err (NotUtf8 line)
entry_of line (Some place) None = Err (NotUtf8 line)
entry_of line (Some place) (Some code) =
    Ok (record { place = place; code = str_to_ascii_uppercase code })

-- the entry of a record on that line, without the white space around its place and its code
abbrev pub entry_at : PlaceColumns → ℕ → List (List ℕ) → Result PlaceEntry PlacesFault
entry_at columns line fields =
    if length fields == columns.width then
    entry_of line (text_in_field (get_or fields columns.place []))
    (text_in_field (get_or fields columns.code []))
    else Err (BadRecord line (length fields) columns.width)

-- with an entry more, if its place has no other code among the entries. A place has one code
abbrev pub with_code : List PlaceEntry → ℕ → PlaceEntry → Option (List ℕ)
    → Result (List PlaceEntry) PlacesFault
with_code entries line e None = Ok (entries ++ e ∷ [])
with_code entries line e (Some code) =
    if bytes_eq code e.code then Ok entries else Err (TwoCodes line e.place)

abbrev pub with_entry : List PlaceEntry → ℕ → PlaceEntry → Result (List PlaceEntry) PlacesFault
with_entry entries line e = with_code entries line e (code_of e.place entries)

-- ---- the whole

-- the entries of the records after the header, after those of the records before them
abbrev pub entries_after : PlaceColumns → List PlaceEntry → List PlacedRecord
    → Result (List PlaceEntry) PlacesFault
entries_after columns entries [] = Ok entries
entries_after columns entries (r ∷ rest) =
    of_record r.fields
    >>= λ fields. entry_at columns r.line fields
    >>= λ e. with_entry entries r.line e
    >>= λ more. entries_after columns more rest

-- the entries of all records, of which the first is the header
abbrev pub entries_of : List PlaceEntry → List PlacedRecord → Result (List PlaceEntry) PlacesFault
entries_of entries [] = Err NoHeader
entries_of entries (r ∷ rest) =
    of_record r.fields
    >>= λ header. columns_in r.line header
    >>= λ columns. entries_after columns entries rest

-- the entries of a text of CSV, or its first fault
abbrev pub places_in : List ℕ → Result (List PlaceEntry) PlacesFault
places_in text = entries_of [] (records_of false None text)
