-- What a parser holds of the records of a text.
use Rattle.std.specs.Prelude.{◌≡◌, ◌≢◌, ℕ, false, List, [], ◌∷◌, ◌++◌, Option, Some, None, Ok}
use Rattle.csv.specs.declared.parser.State.{State}
use Rattle.csv.specs.declared.parser.State.TheVariants as st
use Rattle.csv.specs.declared.parser.Action.{Action}
use Rattle.csv.specs.declared.parser.Action.TheVariants as act
use Rattle.csv.specs.Records.{fields_of}
use Rattle.osn_letters.specs.declared.parser_state.ParserState.{ParserState}
use Rattle.osn_letters.specs.declared.parser_state.ParserState.TheVariants as states
use Rattle.osn_letters.specs.declared.parser_state.Effect.{Effect}
use Rattle.osn_letters.specs.declared.parser_state.Effect.TheVariants as effect
use Rattle.osn_letters.specs.declared.parser.RecordParser.{RecordParser}
use Rattle.osn_letters.specs.declared.fault.LettersFault.{LettersFault}
use Rattle.osn_letters.specs.declared.fault.LettersFault.TheVariants.{NoMemory}
use Rattle.osn_letters.specs.declared.parser.EndedRecord.{EndedRecord}
use Rattle.osn_letters.specs.declared.record_flaw.RecordFlaw.{RecordFlaw}
use Rattle.osn_letters.specs.Faults.{is_of_stream}
use Rattle.osn_letters.specs.Records.{Reading, PlacedRecord, read_byte, after, records_by, faulty}
use Rattle.osn_letters.specs.Records.{last_record, records_from}
use Rattle.osn_letters.specs.Separators.{or_comma}

-- the kit's state and action
abbrev pub state_of : ParserState → State
state_of states.StartRecord = st.StartRecord
state_of states.StartField = st.StartField
state_of states.InField = st.InField
state_of states.InQuoted = st.InQuoted
state_of states.AfterQuote = st.AfterQuote
state_of states.AfterReturn = st.AfterCr

abbrev pub action_of : Effect → Action
action_of effect.Skip = act.Skip
action_of effect.Copy = act.Copy
action_of effect.EndField = act.EndField
action_of effect.EndRecord = act.EndRecord

-- the state of the reading of a parser
abbrev pub reading_of : RecordParser → Reading
reading_of p = record {
  keeps_going = p.keeps_going;
  state = state_of p.state;
  separator = p.separator;
  fields = fields_of p.fields;
  field = p.field.items;
  size = p.size;
  line = p.line;
  returned = p.returned;
  first_line = p.first_line;
  has_stray = p.has_stray;
}

-- a reading whose ended record was taken, so that it has no field
abbrev pub cleared : Reading → Reading
cleared r = record r { fields = [] }

-- the record in a parser, with the line on which it begins and its flaw
abbrev pub record_in : RecordParser → ℕ → Option RecordFlaw → PlacedRecord
record_in p line flaw = record {
  line = line;
  separator = or_comma p.separator;
  flaw = flaw;
  fields = Ok (fields_of p.fields);
}

-- the record in a parser if one ended, or no record
abbrev pub records_given : RecordParser → Option EndedRecord → List PlacedRecord
records_given p None = []
records_given p (Some e) = record_in p e.line e.flaw ∷ []

-- how a parser reads a byte
abbrev pub read_by : RecordParser → ℕ → State × Action
read_by p b = read_byte p.separator (state_of p.state) b

-- a byte was taken, and ended no record, or one that begins on a line and may have a flaw
abbrev pub Takes : RecordParser → RecordParser → ℕ → Option EndedRecord → Type 0
Takes p q b None =
    ((more : List PlacedRecord) → records_by (reading_of p) (read_by p b) more
    ≡ more)
    × (reading_of q ≡ after (reading_of p) b)
Takes p q b (Some e) =
    ((more : List PlacedRecord) → records_by (reading_of p) (read_by p b) more
    ≡ record_in q e.line e.flaw ∷ more)
    × (cleared (reading_of q) ≡ after (reading_of p) b)

-- bytes were taken, and ended no record
abbrev pub TakesRun : RecordParser → RecordParser → List ℕ → Type 0
TakesRun p q run = (more : List ℕ) →
    records_from (reading_of p) (run ++ more) ≡ records_from (reading_of q) more

-- a byte was not taken, since the current record has that fault, or because memory ran out
abbrev pub RefusesByte : RecordParser → ℕ → LettersFault → Type 0
RefusesByte p b fault = (is_of_stream fault ≡ false)
    × ((fault ≢ NoMemory)
    → (more : List PlacedRecord) → records_by (reading_of p) (read_by p b) more
    ≡ faulty (reading_of p) fault ∷ [])

-- the end of the text was not taken, since the current record has that fault, or because memory ran
-- out
abbrev pub RefusesEnd : RecordParser → LettersFault → Type 0
RefusesEnd p fault = (is_of_stream fault ≡ false)
    × ((fault ≢ NoMemory) → last_record (reading_of p) ≡ faulty (reading_of p) fault ∷ [])
