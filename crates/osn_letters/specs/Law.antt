-- The records of a text are those that the kit reads.
use Rattle.std.specs.Prelude.{◌≡◌, ℕ, Bool, true, List, [], ◌∷◌, Option, Result, Ok, Err, is_ok}
use Rattle.csv.specs.declared.parser.State.TheVariants.{StartRecord}
use Rattle.csv.specs.Reading.{AreRecords, strip_bom}
use Rattle.osn_letters.specs.declared.fault.LettersFault.{LettersFault}
use Rattle.osn_letters.specs.declared.separator.Separator.{Separator}
use Rattle.osn_letters.specs.Records.{PlacedRecord, records_of, separator_in}
use Rattle.osn_letters.specs.Separators.{config_by}

-- the fields of a record, unless it has a fault
abbrev pub fields_of_one : Result (List (List ℕ)) LettersFault → List (List (List ℕ))
    → List (List (List ℕ))
fields_of_one (Err fault) more = more
fields_of_one (Ok record_fields) more = record_fields ∷ more

-- the fields of each record
abbrev pub all_fields : List PlacedRecord → List (List (List ℕ))
all_fields [] = []
all_fields (r ∷ rest) = fields_of_one r.fields (all_fields rest)

-- no record has a fault: none that is too long, no open quote, no text after a closing quote
abbrev pub AreSound : List PlacedRecord → Type 0
AreSound [] = Unit {0}
AreSound (r ∷ rest) = (is_ok r.fields ≡ true) × AreSound rest

-- if no record of a text has a fault, they are those that the kit reads, with its own settings
-- except for the separator
unfoldable pub AreKitRecords : Type 0
AreKitRecords =
    (keeps_going : Bool) (named : Option Separator) (text : List ℕ)
    → AreSound (records_of keeps_going named text)
    → AreRecords (config_by (separator_in keeps_going named text)) StartRecord (strip_bom text)
    (all_fields (records_of keeps_going named text))
