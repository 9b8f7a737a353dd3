-- What the command `check` prints of a text, or why it prints nothing.
use Rattle.std.specs.Prelude.{◌≡◌, ◌⊎◌, ◌==◌, ◌++◌, ℕ, if◌then◌else◌, List, Option, Some, Ok}
use Rattle.std.specs.Prelude.{IfSome, IsUtf8, codes, length}
use Rattle.std.specs.Fmt.{decimal}
use Rattle.osn_lines.specs.Streams.{Input, Output}
use Rattle.osn_lines.specs.Whole.{WhyNotRead}
use Rattle.osn_lines.specs.declared.whole.ReadAllFault.{ReadAllFault}
use Rattle.osn_register.specs.Plain.{EntryModel}
use Rattle.osn_register.specs.declared.limits.Limits.{Limits}
use Rattle.osn_register_text.specs.Text.{IsFaultOf, text_of_table}
use Rattle.osn_register_text.specs.declared.fault.TextFault.{TextFault}
use Rattle.osn_register_text.specs.declared.fault.TextFault.TheVariants.{Key, NoMemory, Toml}
use Rattle.osn_report.specs.Printing.{PrintsIfMade}
use Rattle.osn_report.specs.declared.status.Status.{Status}
use Rattle.osn_commands.specs.CheckFaults.{ReportsFaults}
use Rattle.osn_commands.specs.TextFile.{ReportsText, ReportsTextFile, by_read}
use Rattle.osn_commands.specs.declared.text_file.TextFileFault.TheVariants as faults

-- no fault: 17 territories
unfoldable pub checked_line : ℕ → List ℕ
checked_line territories =
    if territories == 1 then codes "no fault: 1 territory\n"
    else codes "no fault: " ++ (decimal territories ++ codes " territories\n")

-- it was reported why a text of this path says no register, and if that is the fault of a table,
-- what other faults the text has
abbrev pub ReportsCheck : Limits → List ℕ → List ℕ → Output → TextFault → Status → Type 0
ReportsCheck limits path text e (Key first) status = ReportsFaults limits path text e first status
ReportsCheck limits path text e (Toml fault) status = ReportsText path e (Toml fault) status
ReportsCheck limits path text e NoMemory status = ReportsText path e NoMemory status

-- a text of this path says no register, which was reported; or it says one under these limits, and
-- the number of its territories was printed
abbrev pub ChecksText : Limits → List ℕ → List ℕ → Output → Output → Status → Type 0
ChecksText limits path text o e status =
    ((fault : TextFault) × IsFaultOf (text_of_table limits text) fault × (o.new ≡ o.old)
    × ReportsCheck limits path text e fault status)
    ⊎ ((edition : Option ℕ) × (territories : List EntryModel)
    × (text_of_table limits text ≡ Some (Ok (edition, territories)))
    × PrintsIfMade (checked_line (length territories)) o e status)

-- the file of this path has these bytes: they are not a text, which was reported; or they are one,
-- which was checked
abbrev pub ChecksBytes : Limits → List ℕ → List ℕ → Output → Output → Status → Type 0
ChecksBytes limits path bytes o e status =
    ((¬ IsUtf8 bytes) × (o.new ≡ o.old) × ReportsTextFile path e faults.NotUtf8 status)
    ⊎ (IsUtf8 bytes × ChecksText limits path bytes o e status)

-- the file of this path could not be read to its end, which was reported
abbrev pub RefusesRead : List ℕ → Input → Output → Output → Status → Type 0
RefusesRead path text o e status =
    (why : ReadAllFault) × WhyNotRead why text.unread_before text.unread text.bytes
    × (o.new ≡ o.old) × ReportsTextFile path e (by_read why) status

-- how the file of this path is checked. It could not be read to its end, which was reported; or its
-- bytes were checked, which are those that it is known to have
abbrev pub PrintsCheck : Limits → List ℕ → Input → Output → Output → Status → Type 0
PrintsCheck limits path text o e status =
    RefusesRead path text o e status
    ⊎ ((bytes : List ℕ) × IfSome text.bytes (λ known. bytes ≡ known)
    × ChecksBytes limits path bytes o e status)
