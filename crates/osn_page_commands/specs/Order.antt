-- In which order the three numbers of a date are read. This project's profile.
use Rattle.std.specs.Prelude.{ℕ, if◌then◌else◌, List, codes, Option, Some, None, Result, Ok, Err}
use Rattle.std.specs.Str.{bytes_eq}
use Rattle.osn_grammar.specs.declared.text_reading.DateOrder.{DateOrder}
use Rattle.osn_grammar.specs.declared.text_reading.DateOrder.TheVariants.{Unknown, DayMonth}
use Rattle.osn_grammar.specs.declared.text_reading.DateOrder.TheVariants.{MonthDay}
use Rattle.osn_report.specs.declared.misuse.Misuse.{Misuse}
use Rattle.osn_report.specs.declared.misuse.Misuse.TheVariants as misuses

-- the order of a word, if there is one: dmy for the day first, mdy for the month
abbrev pub order_of_word : Option (List ℕ) → Result DateOrder Misuse
order_of_word None = Ok Unknown
order_of_word (Some word) =
    if bytes_eq word (codes "dmy") then Ok DayMonth
    else (if bytes_eq word (codes "mdy") then Ok MonthDay
    else Err misuses.Order)
