-- The faults that end a table of letters are the table's own, those of a stream, or NoMemory.
use Rattle.std.specs.Prelude.{◌≡◌, ◌⊎◌, ℕ, ◌+◌, Bool, true, false, ◌||◌}
use Rattle.osn_letters.specs.declared.fault.LettersFault.{LettersFault}
use Rattle.osn_letters.specs.declared.fault.LettersFault.TheVariants.{NoHeader, LacksColumn}
use Rattle.osn_letters.specs.declared.fault.LettersFault.TheVariants.{HasColumn, BadRecord}
use Rattle.osn_letters.specs.declared.fault.LettersFault.TheVariants.{TooLong, OpenQuote}
use Rattle.osn_letters.specs.declared.fault.LettersFault.TheVariants.{TextAfterQuote, ReadFault}
use Rattle.osn_letters.specs.declared.fault.LettersFault.TheVariants.{WriteFault, NoMemory}

-- whether a fault is one of the table itself, and not of memory, of the input or of the output
abbrev pub is_of_table : LettersFault → Bool
is_of_table NoHeader = true
is_of_table (LacksColumn column line found nearest) = true
is_of_table (HasColumn line column) = true
is_of_table (BadRecord line fields width) = true
is_of_table (TooLong line) = true
is_of_table (OpenQuote line) = true
is_of_table (TextAfterQuote line) = true
is_of_table ReadFault = false
is_of_table WriteFault = false
is_of_table NoMemory = false

-- whether a fault is one of the input, or of the output
abbrev pub is_read_fault : LettersFault → Bool
is_read_fault ReadFault = true
is_read_fault other = false

abbrev pub is_write_fault : LettersFault → Bool
is_write_fault WriteFault = true
is_write_fault other = false

-- whether a fault is one of a stream
abbrev pub is_of_stream : LettersFault → Bool
is_of_stream fault = is_read_fault fault || is_write_fault fault

-- if the fault of a stream ended a table, the stream failed, or there was more than its calls may
-- do; otherwise the stream has not failed since
abbrev pub EndsStream : Bool → Bool → Bool → Type 0 → Type 0
EndsStream true old new Long = (new ≡ true) ⊎ Long
EndsStream false old new Long = new ≡ old

-- a fault with its line this many lines later; one without a line is as it was
abbrev pub later_fault : ℕ → LettersFault → LettersFault
later_fault n (BadRecord line fields width) = BadRecord (line + n) fields width
later_fault n (TooLong line) = TooLong (line + n)
later_fault n (OpenQuote line) = OpenQuote (line + n)
later_fault n (TextAfterQuote line) = TextAfterQuote (line + n)
later_fault n other = other
