-- What a reader of places gives of more records and of more bytes.
use Rattle.std.specs.Prelude.{◌≡◌, ◌≢◌, ℕ, List, ◌∷◌, Option, Some, None, Result, Err}
use Rattle.osn_letters.specs.declared.place_columns.PlaceColumns.{PlaceColumns}
use Rattle.osn_letters.specs.declared.place_reader.PlaceReader.{PlaceReader}
use Rattle.osn_letters.specs.declared.places_fault.PlacesFault.{PlacesFault}
use Rattle.osn_letters.specs.declared.places_fault.PlacesFault.TheVariants.{NoMemory}
use Rattle.osn_letters.specs.declared.record_flaw.RecordFlaw.{RecordFlaw}
use Rattle.osn_letters.specs.PlaceEntries.{PlaceEntry}
use Rattle.osn_letters.specs.Places.{entries_after, entries_of}
use Rattle.osn_letters.specs.Records.{PlacedRecord, records_from}
use Rattle.osn_letters.specs.RecordsInside.{reading_of, record_in}

-- the entries after more records, before the header or after it
abbrev pub entries_by : Option PlaceColumns → List PlaceEntry → List PlacedRecord
    → Result (List PlaceEntry) PlacesFault
entries_by None entries records = entries_of entries records
entries_by (Some columns) entries records = entries_after columns entries records

abbrev pub found_by : PlaceReader → List PlacedRecord → Result (List PlaceEntry) PlacesFault
found_by s records = entries_by s.columns s.places records

-- the entries after more bytes, up to the end of the text
abbrev pub found_from : PlaceReader → List ℕ → Result (List PlaceEntry) PlacesFault
found_from s bytes = found_by s (records_from (reading_of s.parser) bytes)

-- the record in the parser was taken
abbrev pub TakesRecord : PlaceReader → PlaceReader → ℕ → Type 0
TakesRecord old new line = (flaw : Option RecordFlaw) (more : List PlacedRecord) →
    found_by old (record_in old.parser line flaw ∷ more) ≡ found_by new more

-- the record in the parser was not taken, by that fault or because memory ran out
abbrev pub RefusesRecord : PlaceReader → ℕ → PlacesFault → Type 0
RefusesRecord old line fault = (fault ≢ NoMemory) → (flaw : Option RecordFlaw)
    (more : List PlacedRecord) →
    found_by old (record_in old.parser line flaw ∷ more) ≡ Err fault

-- some bytes were not all taken, by that fault or because memory ran out
abbrev pub RefusesBytes : PlaceReader → List ℕ → PlacesFault → Type 0
RefusesBytes old bytes fault = (fault ≢ NoMemory) → found_from old bytes ≡ Err fault
