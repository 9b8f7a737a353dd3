-- The text of an audit, and why there is none.
use Rattle.std.specs.Prelude.{◌≡◌, ◌⊎◌, ℕ, List, ◌++◌, codes}
use Rattle.std.specs.Fmt.{decimal}
use Rattle.osn_register.specs.declared.limits.Limits.{Limits}
use Rattle.osn_core.specs.Sequential.{ObjectState}
use Rattle.osn_lines.specs.Streams.{Input}
use Rattle.osn_files.specs.declared.fault.FileFault.{FileFault}
use Rattle.osn_files.specs.declared.fault.Role.TheVariants.{Transcript}
use Rattle.osn_file_commands.specs.TranscriptAudit.{agreed_lines}
use Rattle.osn_report.specs.Files.{Makes, IsFileFault}
use Rattle.osn_report.specs.Journal.{MakesObject, MakesNoObject}
use Rattle.osn_report.specs.declared.fault.CommandFault.{CommandFault}
use Rattle.osn_report.specs.declared.fault.CommandFault.TheVariants.{File, NoMemory}

-- the line on this many replies
abbrev pub audit_line : ℕ → List ℕ
audit_line n = codes "audit: " ++ (decimal n ++ codes " replies agree\n")

-- this many replies agree with the journal's object
abbrev pub Agree : Limits → Input → Input → ℕ → Type 0
Agree limits journal transcript n =
    (s : ObjectState) × MakesObject limits journal.bytes s
    × Makes (agreed_lines s) transcript.bytes n

-- why the two files are not audited: nothing is made of the journal, which is read first, or a line
-- of the transcript does not agree with its object
abbrev pub IsNotAudited : Limits → Input → Input → FileFault → Type 0
IsNotAudited limits journal transcript fault =
    MakesNoObject limits journal fault
    ⊎ ((s : ObjectState) × MakesObject limits journal.bytes s
    × IsFileFault Transcript (agreed_lines s) transcript fault)

-- the text of the command says how many replies agree
abbrev pub Audits : Limits → Input → Input → List ℕ → Type 0
Audits limits journal transcript text =
    (n : ℕ) × Agree limits journal transcript n × (text ≡ audit_line n)

-- why there is none: the two files are not audited, or there was no memory for the text
abbrev pub AuditFails : Limits → Input → Input → CommandFault → Type 0
AuditFails limits journal transcript fault =
    ((why : FileFault) × IsNotAudited limits journal transcript why × (fault ≡ File why))
    ⊎ (fault ≡ NoMemory)
