-- What the text of a file says, why it says nothing, and how that is reported. This project's
-- profile.
use Rattle.std.specs.Prelude.{◌≡◌, ◌⊎◌, ⊤, ℕ, List, ◌++◌, Option, Some, Ok, IfSome, IsUtf8, codes}
use Rattle.osn_folder.specs.declared.fault.OpenFailed.TheVariants.{Other}
use Rattle.osn_lines.specs.Faults.{IsReadFault}
use Rattle.osn_lines.specs.Streams.{Input, Output}
use Rattle.osn_lines.specs.declared.whole.ReadAllFault.{ReadAllFault}
use Rattle.osn_lines.specs.declared.whole.ReadAllFault.TheVariants as read_faults
use Rattle.osn_register.specs.declared.limits.Limits.{Limits}
use Rattle.osn_register.specs.Plain.{RegisterModel}
use Rattle.osn_report.specs.Messages.{EndsBy, ReportsIfMade}
use Rattle.osn_report.specs.OpenFailure.{open_failure_line}
use Rattle.osn_report.specs.declared.fault.CommandFault.TheVariants as command_faults
use Rattle.osn_report.specs.declared.status.Status.{Status}
use Rattle.osn_report.specs.declared.status.Status.TheVariants as statuses
use Rattle.osn_lines.specs.Escape.{escaped_text}
use Rattle.osn_register_text.specs.FaultHelp.{fault_help}
use Rattle.osn_register_text.specs.Text.{IsFaultOf, text_of_table}
use Rattle.osn_register_text.specs.Words.{text_fault_text}
use Rattle.osn_register_text.specs.declared.fault.TextFault.{TextFault}
use Rattle.osn_register_text.specs.declared.fault.TextFault.TheVariants as text_faults
use Rattle.osn_commands.specs.declared.text_file.TextFileFault.{TextFileFault}
use Rattle.osn_commands.specs.declared.text_file.TextFileFault.TheVariants as faults

-- why it says none, if its bytes were not read
abbrev pub by_read : ReadAllFault → TextFileFault
by_read read_faults.NoMemory = faults.NoMemory
by_read read_faults.ReadFault = faults.ReadFault

-- these bytes say this register under these limits, and of which edition it was made, if they do
abbrev pub BytesSay : Limits → List ℕ → Option ℕ → RegisterModel → Type 0
BytesSay limits bytes edition r =
    (r.limits ≡ limits) × IsUtf8 bytes
    × (text_of_table limits bytes ≡ Some (Ok (edition, r.territories)))

-- these bytes say no register, by this fault
abbrev pub BytesSayNone : Limits → List ℕ → TextFileFault → Type 0
BytesSayNone limits bytes faults.NoMemory = ⊤
BytesSayNone limits bytes faults.ReadFault = ⊥
BytesSayNone limits bytes faults.NotUtf8 = ¬ IsUtf8 bytes
BytesSayNone limits bytes (faults.Text why) =
    IsUtf8 bytes × IsFaultOf (text_of_table limits bytes) why

-- a file of these bytes says this edition and this register
abbrev pub Says : Limits → Option (List ℕ) → Option ℕ → RegisterModel → Type 0
Says limits bytes edition r = IfSome bytes (λ bytes. BytesSay limits bytes edition r)

-- a file says none, by this fault: a read of it failed, or its bytes say none
abbrev pub IsTextFileFault : Limits → Input → TextFileFault → Type 0
IsTextFileFault limits text fault =
    ((fault ≡ faults.ReadFault) × IsReadFault text.unread text.bytes)
    ⊎ IfSome text.bytes (λ bytes. BytesSayNone limits bytes fault)

-- ---- what is written to standard error

-- the line on a text of this path
abbrev pub text_line : List ℕ → List ℕ → List ℕ
text_line path message =
    codes "oldstyle: " ++ (escaped_text path ++ (codes ": " ++ (message ++ codes "\n")))

-- the line on a fault of a text of this path, and the line of help below it, if there is one
abbrev pub fault_lines : List ℕ → TextFault → List ℕ
fault_lines path fault = codes "oldstyle: "
    ++ (escaped_text path
    ++ (codes ": " ++ (text_fault_text fault ++ (codes "\n" ++ fault_help fault))))

-- it was reported what a text says wrongly, or that memory ran out
abbrev pub ReportsText : List ℕ → Output → TextFault → Status → Type 0
ReportsText path e (text_faults.Toml why) status =
    ReportsIfMade e statuses.Refused (fault_lines path (text_faults.Toml why)) status
ReportsText path e (text_faults.Key why) status =
    ReportsIfMade e statuses.Refused (fault_lines path (text_faults.Key why)) status
ReportsText path e text_faults.NoMemory status = EndsBy e command_faults.NoMemory status

-- it was reported why the file of this path says no register
abbrev pub ReportsTextFile : List ℕ → Output → TextFileFault → Status → Type 0
ReportsTextFile path e faults.NoMemory status = EndsBy e command_faults.NoMemory status
ReportsTextFile path e faults.ReadFault status =
    ReportsIfMade e statuses.ReadFault (open_failure_line path Other) status
ReportsTextFile path e faults.NotUtf8 status = ReportsIfMade e statuses.Refused
    (text_line path (codes "it is not UTF-8: save it as UTF-8")) status
ReportsTextFile path e (faults.Text why) status = ReportsText path e why status
