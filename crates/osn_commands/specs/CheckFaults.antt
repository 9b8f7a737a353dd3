-- How all faults of a text are reported: this project's profile.
use Rattle.std.specs.Prelude.{ℕ, ◌+◌, ◌==◌, if◌then◌else◌, List, [], ◌++◌, codes, length}
use Rattle.std.specs.Prelude.{Option, Some, None}
use Rattle.std.specs.Fmt.{decimal}
use Rattle.std.specs.List.{flat_map}
use Rattle.toml.specs.Parse.{parse_document}
use Rattle.osn_lines.specs.Escape.{escaped_text}
use Rattle.osn_lines.specs.Streams.{Output}
use Rattle.osn_register.specs.declared.limits.Limits.{Limits}
use Rattle.osn_register_text.specs.FaultHelp.{key_fault_help}
use Rattle.osn_register_text.specs.FurtherFaults.{further_faults}
use Rattle.osn_register_text.specs.TableLine.{table_line}
use Rattle.osn_register_text.specs.Words.{key_fault_text}
use Rattle.osn_register_text.specs.declared.fault.KeyFault.{KeyFault}
use Rattle.osn_report.specs.Messages.{ReportsIfMade}
use Rattle.osn_report.specs.declared.status.Status.{Status}
use Rattle.osn_report.specs.declared.status.Status.TheVariants.{Refused}

-- the line on where the table of a code begins, if that is known
abbrev pub place_note : List ℕ → Option ℕ → List ℕ
place_note code None = []
place_note code (Some line) = codes "note: "
    ++ (escaped_text code ++ (codes " begins on line " ++ (decimal line ++ codes "\n")))

-- a fault of a text of this path, what may be meant, and where its table begins
abbrev pub fault_lines : List ℕ → List ℕ → KeyFault → List ℕ
fault_lines path text fault = codes "oldstyle: "
    ++ (escaped_text path
    ++ (codes ": "
    ++ (key_fault_text fault
    ++ (codes "\n"
    ++ (key_fault_help fault ++ place_note fault.code (table_line fault.code text))))))

-- note: 2 faults
unfoldable pub count_line : ℕ → List ℕ
count_line faults =
    if faults == 1 then codes "note: 1 fault\n"
    else codes "note: " ++ (decimal faults ++ codes " faults\n")

-- the first fault of a text and further ones, and then their number
abbrev pub list_of : List ℕ → List ℕ → KeyFault → List KeyFault → List ℕ
list_of path text first further =
    fault_lines path text first
    ++ (flat_map (fault_lines path text) further ++ count_line (length further + 1))

-- after the first fault of a text of this path those of the other territories were reported, and
-- then how many faults it has
abbrev pub ReportsFaults : Limits → List ℕ → List ℕ → Output → KeyFault → Status → Type 0
ReportsFaults limits path text e first status = ReportsIfMade e Refused
    (list_of path text first (further_faults limits first.code (parse_document text))) status
