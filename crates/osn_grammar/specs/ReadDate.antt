-- The date that a query asks about, and the date of one day, of a text. This project's profile.
use Rattle.std.specs.Prelude.{ℕ, List, Result, Ok, Err}
use Rattle.osn_grammar.specs.declared.text_reading.DateOrder.TheVariants.{Unknown}
use Rattle.osn_grammar.specs.declared.text_reading.TextReading.{TextReading}
use Rattle.osn_grammar.specs.declared.text_reading.TextReading.TheVariants as say
use Rattle.osn_grammar.specs.Reading.{members, read_date}
use Rattle.osn_written.specs.declared.any_date.AnyDate.{AnyDate}
use Rattle.osn_written.specs.declared.date_reading.DateReading.{DateReading}
use Rattle.osn_written.specs.declared.date_reading.DateReading.TheVariants as readings
use Rattle.osn_written.specs.declared.written_date.DateFault.{DateFault}
use Rattle.osn_written.specs.declared.written_date.DateFault.TheVariants as faults
use Rattle.osn_written.specs.declared.written_date.WrittenDate.{WrittenDate}
use Rattle.osn_written.specs.PlainDay.{plain_day}

-- ---- the date that a query asks about

-- the date, the set of these dates, or why the text is not a date
abbrev pub reading_by : List AnyDate → Result TextReading DateFault → DateReading
reading_by ws (Ok (say.Date w)) = readings.Date w
reading_by ws (Ok say.Set) = readings.Set ws
reading_by ws (Ok say.NoDate) = readings.Fault faults.NoDate
reading_by ws (Err fault) = readings.Fault fault

-- the date that a text is, if nothing says whether the day or the month comes first
unfoldable pub date_reading : List ℕ → DateReading
date_reading text = reading_by (members text) (read_date Unknown text)

-- ---- dates of one day

-- the date of one day that was read, or why no such date was read
abbrev pub day_read : Result TextReading DateFault → Result WrittenDate DateFault
day_read (Ok (say.Date w)) = plain_day w
day_read (Ok say.NoDate) = Err faults.NoDate
day_read (Ok say.Set) = Err faults.NotOneDay
day_read (Err fault) = Err fault

-- the date of one day that a text is, or why it is no such date
unfoldable pub written_date : List ℕ → Result WrittenDate DateFault
written_date text = day_read (read_date Unknown text)
