-- If memory ran out before a date was read, a conversion ended as its contract says.
use Rattle.std.proofs.Common.{◌≡◌, List, ℕ, Option, Result, Ok, Err, inr}
use Rattle.osn_days.specs.declared.weekday.Weekday.{Weekday}
use Rattle.osn_lines.specs.Streams.{Output}
use Rattle.osn_page_commands.specs.Conversion.{PrintsConversion}
use Rattle.osn_page_commands.specs.PageRequest.{conversion_of_words}
use Rattle.osn_report.specs.Messages.{EndsBy}
use Rattle.osn_report.specs.declared.fault.CommandFault.TheVariants.{NoMemory}
use Rattle.osn_report.specs.declared.misuse.Misuse.{Misuse}
use Rattle.osn_report.specs.declared.status.Status.{Status}

pub conversion_unread : (calendar date : List ℕ) (o e : Output) (status : Status)
    (conversion : Result (ℕ × Option Weekday) Misuse)
    → conversion_of_words calendar date ≡ conversion → o.new ≡ o.old → EndsBy e NoMemory status
    → PrintsConversion calendar date o e status
conversion_unread calendar date o e status (Ok conversion) is same message =
    rw is (inr (same, message))
conversion_unread calendar date o e status (Err misuse) is same message = rw is (same, inr message)
