-- The records of a text of CSV, each with the line on which it begins. How a byte is read is the
-- kit's; lines, and which records have a fault, are this project's profile.
use Rattle.std.specs.Prelude.{ℕ, ◌+◌, ◌==◌, Bool, true, false, not, ◌&&◌, ◌||◌, nat_lt, List, []}
use Rattle.std.specs.Prelude.{◌∷◌, Option, Some, None, Result, Ok, Err, if◌then◌else◌, fold}
use Rattle.csv.specs.declared.parser.State.{State}
use Rattle.csv.specs.declared.parser.State.TheVariants as st
use Rattle.csv.specs.declared.parser.Action.{Action}
use Rattle.csv.specs.declared.parser.Action.TheVariants as act
use Rattle.csv.specs.Machine.{step, is_end, fields_after, field_after, ends_at_end}
use Rattle.csv.specs.Machine.{carriage_return, line_feed}
use Rattle.csv.specs.Reading.{strip_bom}
use Rattle.osn_letters.specs.declared.separator.Separator.{Separator}
use Rattle.osn_letters.specs.declared.fault.LettersFault.{LettersFault}
use Rattle.osn_letters.specs.declared.fault.LettersFault.TheVariants.{TooLong, OpenQuote}
use Rattle.osn_letters.specs.declared.fault.LettersFault.TheVariants.{TextAfterQuote}
use Rattle.osn_letters.specs.declared.record_flaw.RecordFlaw.{RecordFlaw}
use Rattle.osn_letters.specs.declared.record_flaw.RecordFlaw.TheVariants as flaws
use Rattle.osn_letters.specs.Separators.{config_by, or_comma, separator_after, separator_at}

-- the most bytes that a record may have in the text, without its line end
abbrev pub longest_record : ℕ
longest_record = 65536

-- the most bytes that a record may have in the text if the records after a longer one are read too
abbrev pub longest_kept : ℕ
longest_kept = 16777216

-- the most bytes of a record that is read
abbrev pub most_bytes : Bool → ℕ
most_bytes false = longest_record
most_bytes true = longest_kept

-- a record of a text: the line on which it begins, what separates its fields, its flaw, if it is
-- read all the same, and its fields, or else its fault
pub record PlacedRecord : Type 0 where
  pub line : ℕ
  pub separator : Separator
  pub flaw : Option RecordFlaw
  pub fields : Result (List (List ℕ)) LettersFault

-- the state of a reading between two bytes, and which separator was found. Records that have a flaw
-- may be read too. The current record has fields, the bytes of the last field, a number of bytes in
-- the text, and the line on which it begins, and may have a text after a closing quote. The next
-- byte has a line, and may have a carriage return before it
pub record Reading : Type 0 where
  pub keeps_going : Bool
  pub state : State
  pub separator : Option Separator
  pub fields : List (List ℕ)
  pub field : List ℕ
  pub size : ℕ
  pub line : ℕ
  pub returned : Bool
  pub first_line : ℕ
  pub has_stray : Bool

-- at the beginning of a text whose records with a flaw are read or not, with the separator that was
-- named, if any
abbrev pub at_start : Bool → Option Separator → Reading
at_start keeps_going named = record {
  keeps_going = keeps_going;
  state = st.StartRecord;
  separator = named;
  fields = [];
  field = [];
  size = 0;
  line = 1;
  returned = false;
  first_line = 1;
  has_stray = false;
}

-- how a byte is read
unfoldable pub read_byte : Option Separator → State → ℕ → State × Action
read_byte found s b = step (config_by (separator_at found b)) s b

-- between two records
abbrev pub is_between : State → Bool
is_between st.StartRecord = true
is_between st.AfterCr = true
is_between st.StartField = false
is_between st.InField = false
is_between st.InQuoted = false
is_between st.AfterQuote = false
is_between st.InEscape = false
is_between st.InComment = false

-- whether a byte ends a line: a carriage return does, and a line feed that is not after one
abbrev pub ends_line : Bool → ℕ → Bool
ends_line returned b = (b == carriage_return) || ((b == line_feed) && not returned)

-- the line after a byte
abbrev pub next_line : Bool → ℕ → ℕ → ℕ
next_line returned line b = if ends_line returned b then line + 1 else line

-- a byte after a closing quote goes on with the field
abbrev pub is_stray : State → State → Bool
is_stray st.AfterQuote st.InField = true
is_stray old new = false

-- the reading after a byte, by the state after it and what is done with it
abbrev pub moved : Reading → ℕ → State × Action → Reading
moved r b s = record {
  keeps_going = r.keeps_going;
  state = s.0;
  separator = separator_after r.separator b s.1;
  fields = if is_end s.1 then [] else fields_after s.1 r.fields r.field;
  field = field_after s.1 b r.field;
  size = if is_between s.0 then 0 else r.size + 1;
  line = next_line r.returned r.line b;
  returned = b == carriage_return;
  first_line = if is_between s.0 then next_line r.returned r.line b else r.first_line;
  has_stray = if is_end s.1 then false else r.has_stray || is_stray r.state s.0;
}

abbrev pub after : Reading → ℕ → Reading
after r b = moved r b (read_byte r.separator r.state b)

-- the reading after some bytes
abbrev pub reading_after : Reading → List ℕ → Reading
reading_after = fold after

-- the current record has no room for one more byte
abbrev pub is_full : Reading → State → Bool
is_full r s = not (is_between s) && not (nat_lt r.size (most_bytes r.keeps_going))

-- the current record is not read because of that
abbrev pub is_refused : Reading → Bool → Bool
is_refused r flawed = flawed && not r.keeps_going

-- a quote is open
abbrev pub is_open : State → Bool
is_open st.InQuoted = true
is_open other = false

-- the flaw of a record in which a quote may be open, which has that many bytes, and which may have
-- a text after a closing quote
abbrev pub flaw_by : Bool → ℕ → Bool → Option RecordFlaw
flaw_by unclosed size has_stray =
    if unclosed then Some flaws.OpenQuote
    else if nat_lt longest_record size then Some flaws.TooLong
    else if has_stray then Some flaws.TextAfterQuote
    else None

-- the flaw of the current record, if it ends here
abbrev pub flaw_of : Reading → Option RecordFlaw
flaw_of r = flaw_by (is_open r.state) r.size r.has_stray

-- the current record, ended
abbrev pub ended : Reading → Action → PlacedRecord
ended r a = record {
  line = r.first_line;
  separator = or_comma r.separator;
  flaw = flaw_of r;
  fields = Ok (fields_after a r.fields r.field);
}

-- the current record, which has a fault
abbrev pub faulty : Reading → LettersFault → PlacedRecord
faulty r fault = record {
  line = r.first_line;
  separator = or_comma r.separator;
  flaw = None;
  fields = Err fault;
}

-- what a byte gives by how it is read, and then the records after it. Nothing is read after a
-- record that has a fault
abbrev pub records_by : Reading → State × Action → List PlacedRecord → List PlacedRecord
records_by r s more =
    if is_full r s.0 then faulty r (TooLong r.first_line) ∷ []
    else if is_refused r (is_stray r.state s.0) then
    faulty r (TextAfterQuote r.first_line) ∷ []
    else if is_end s.1 then ended r s.1 ∷ more
    else more

-- the record that the end of the text ends, if any
abbrev pub last_record : Reading → List PlacedRecord
last_record r =
    if is_refused r (is_open r.state) then faulty r (OpenQuote r.first_line) ∷ []
    else if ends_at_end r.state then ended r act.EndRecord ∷ []
    else []

-- the records that end in these bytes, and in the end of the text after them
abbrev pub records_from : Reading → List ℕ → List PlacedRecord
records_from r [] = last_record r
records_from r (b ∷ bytes) =
    records_by r (read_byte r.separator r.state b) (records_from (after r b) bytes)

-- the records of a text, which may begin with a byte order mark, by the separator that was named.
-- Those that have a flaw are read or not
abbrev pub records_of : Bool → Option Separator → List ℕ → List PlacedRecord
records_of keeps_going named text = records_from (at_start keeps_going named) (strip_bom text)

-- what separates the fields of a text: what was named, or else the first comma, semicolon or tab of
-- its header that is not in quotes, or else the comma
abbrev pub separator_in : Bool → Option Separator → List ℕ → Separator
separator_in keeps_going named text =
    or_comma (reading_after (at_start keeps_going named) (strip_bom text)).separator

-- how many lines end in bytes, of which the first is after a carriage return or not
abbrev pub line_ends : Bool → List ℕ → ℕ
line_ends returned [] = 0
line_ends returned (b ∷ bytes) =
    (if ends_line returned b then 1 else 0) + line_ends (b == carriage_return) bytes
