-- The faults of a table of places.
use Rattle.std.specs.Prelude.{ℕ, Bool, true, false, List, Result, Ok, Err, codes}
use Rattle.osn_letters.specs.declared.fault.LettersFault.{LettersFault}
use Rattle.osn_letters.specs.declared.fault.LettersFault.TheVariants as letters
use Rattle.osn_letters.specs.declared.places_fault.PlacesColumn.{PlacesColumn}
use Rattle.osn_letters.specs.declared.places_fault.PlacesColumn.TheVariants as column
use Rattle.osn_letters.specs.declared.places_fault.PlacesFault.{PlacesFault}
use Rattle.osn_letters.specs.declared.places_fault.PlacesFault.TheVariants.{NoHeader, LacksColumn}
use Rattle.osn_letters.specs.declared.places_fault.PlacesFault.TheVariants.{BadRecord, TooLong}
use Rattle.osn_letters.specs.declared.places_fault.PlacesFault.TheVariants.{OpenQuote, NotUtf8}
use Rattle.osn_letters.specs.declared.places_fault.PlacesFault.TheVariants.{TextAfterQuote}
use Rattle.osn_letters.specs.declared.places_fault.PlacesFault.TheVariants.{TwoCodes, ReadFault}
use Rattle.osn_letters.specs.declared.places_fault.PlacesFault.TheVariants.{NoMemory}
use Rattle.osn_lines.specs.declared.whole.ReadAllFault.{ReadAllFault}
use Rattle.osn_lines.specs.declared.whole.ReadAllFault.TheVariants as reading

-- the name of a column
abbrev pub column_name : PlacesColumn → List ℕ
column_name column.Place = codes "place"
column_name column.Code = codes "code"

-- the fault of a record of CSV. There are three, and else memory ran out
abbrev pub of_letters : LettersFault → PlacesFault
of_letters (letters.TooLong line) = TooLong line
of_letters (letters.OpenQuote line) = OpenQuote line
of_letters (letters.TextAfterQuote line) = TextAfterQuote line
of_letters other = NoMemory

-- why a source was not read
abbrev pub of_reading : ReadAllFault → PlacesFault
of_reading reading.ReadFault = ReadFault
of_reading reading.NoMemory = NoMemory

-- the fields of a record, or its fault
abbrev pub of_record : Result (List (List ℕ)) LettersFault → Result (List (List ℕ)) PlacesFault
of_record (Ok fields) = Ok fields
of_record (Err fault) = Err (of_letters fault)

-- whether a fault is one of the table itself, and not of memory or of the input
abbrev pub is_of_table : PlacesFault → Bool
is_of_table NoHeader = true
is_of_table (LacksColumn column line found) = true
is_of_table (BadRecord line fields width) = true
is_of_table (TooLong line) = true
is_of_table (OpenQuote line) = true
is_of_table (TextAfterQuote line) = true
is_of_table (NotUtf8 line) = true
is_of_table (TwoCodes line place) = true
is_of_table ReadFault = false
is_of_table NoMemory = false

-- whether a fault is one of the input
abbrev pub is_read_fault : PlacesFault → Bool
is_read_fault ReadFault = true
is_read_fault other = false
