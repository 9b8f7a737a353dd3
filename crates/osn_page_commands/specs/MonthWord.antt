-- The month that a word names.
use Rattle.std.specs.Prelude.{ℕ, Bool, true, false, ◌&&◌, nat_le, if◌then◌else◌, codes, List}
use Rattle.std.specs.Prelude.{◌++◌, Option, Some, None, Result, Ok, Err}
use Rattle.std.specs.Option.{ok_or}
use Rattle.osn_grammar.specs.ReadDate.{written_date}
use Rattle.osn_written.specs.declared.written_date.DateFault.{DateFault}
use Rattle.osn_written.specs.declared.written_date.WrittenDate.{WrittenDate}
use Rattle.osn_report.specs.declared.misuse.Misuse.{Misuse}
use Rattle.osn_report.specs.declared.misuse.Misuse.TheVariants as misuses

-- the month of a date with one year
abbrev pub month_of : Result WrittenDate DateFault → Option ℕ
month_of (Ok date) = if date.is_double then None else Some date.month
month_of (Err fault) = None

-- the month in whose place a date may have the word: that of `1 WORD 2000`
abbrev pub month_in_date : List ℕ → Option ℕ
month_in_date word = month_of (written_date (codes "1 " ++ (word ++ codes " 2000")))

-- a month by its number, or else by a name that a date may have
abbrev pub month_of_word : Option ℕ → List ℕ → Result ℕ Misuse
month_of_word (Some month) text =
    if nat_le 1 month && nat_le month 12 then Ok month else Err misuses.Month
month_of_word None text = ok_or (month_in_date text) misuses.Month

-- only a name takes memory
abbrev pub month_takes_memory : Option ℕ → Bool
month_takes_memory (Some month) = false
month_takes_memory None = true
