-- What a command has written that prints one text.
use Rattle.std.specs.Prelude.{◌≡◌, ◌⊎◌, ℕ, List, None, take}
use Rattle.std.specs.Io.KnownBytes.{Appends}
use Rattle.osn_lines.specs.Faults.{WriteFails}
use Rattle.osn_lines.specs.Streams.{Output}
use Rattle.osn_report.specs.Messages.{Ends, EndsBy, Reports, ReportsAt, ReportsNothing}
use Rattle.osn_report.specs.declared.fault.CommandFault.{CommandFault}
use Rattle.osn_report.specs.declared.fault.CommandFault.TheVariants.{WriteFault, NoMemory}
use Rattle.osn_report.specs.declared.status.Status.{Status}
use Rattle.osn_report.specs.declared.status.Status.TheVariants.{Unwritten}

-- the output failed, and a prefix of the text is written
abbrev pub FailsToPrint : List ℕ → Output → Type 0
FailsToPrint text o =
    WriteFails o.unwritten_before o.unwritten text × (n : ℕ) × Appends o.old o.new (take n text)

-- the status says that the output failed, and nothing was written to standard error
abbrev pub EndsUnwritten : Output → Status → Type 0
EndsUnwritten e status = (status ≡ Unwritten) × ReportsNothing e

-- the text was written; or the output failed, a prefix was written, and only the status says so
abbrev pub Prints : List ℕ → Output → Output → Status → Type 0
Prints text o e status =
    (Ends e None status × Appends o.old o.new text)
    ⊎ (EndsUnwritten e status × FailsToPrint text o)

-- nothing was written, since there was no memory for the text, which was reported
abbrev pub LacksText : Output → Output → Status → Type 0
LacksText o e status = (o.new ≡ o.old) × EndsBy e NoMemory status

-- the text was made and printed; or there was no memory for it, which was reported
abbrev pub PrintsIfMade : List ℕ → Output → Output → Status → Type 0
PrintsIfMade text o e status = Prints text o e status ⊎ LacksText o e status

-- the text was made and printed; or it was reported that the output failed, or that there was no
-- memory for the text
abbrev pub PrintsOrReports : List ℕ → Output → Output → Status → Type 0
PrintsOrReports text o e status =
    ((Ends e None status × Appends o.old o.new text)
    ⊎ (EndsBy e WriteFault status × FailsToPrint text o))
    ⊎ LacksText o e status

-- nothing was written, and it was reported why
abbrev pub PrintsNone : CommandFault → Output → Output → Status → Type 0
PrintsNone fault o e status = (o.new ≡ o.old) × Reports e fault status

-- nothing was written, and it was reported why, by the path of the file
abbrev pub PrintsNoneAt : List ℕ → CommandFault → Output → Output → Status → Type 0
PrintsNoneAt path fault o e status = (o.new ≡ o.old) × ReportsAt path e fault status
