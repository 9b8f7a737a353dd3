-- The status numbers of the program: this project's profile.
use Rattle.std.specs.Prelude.{ℕ}
use Rattle.osn_report.specs.declared.status.Status.{Status}
use Rattle.osn_report.specs.declared.status.Status.TheVariants.{Done, Refused, Misused}
use Rattle.osn_report.specs.declared.status.Status.TheVariants.{ReadFault, WriteFault, NoMemory}
use Rattle.osn_report.specs.declared.status.Status.TheVariants.{Unwritten}

abbrev pub status_code : Status → ℕ
status_code Done = 0
status_code Refused = 1
status_code Misused = 2
status_code ReadFault = 3
status_code WriteFault = 3
status_code Unwritten = 3
status_code NoMemory = 4
