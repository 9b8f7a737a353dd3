-- What is at the path that a journal will be saved to, before a line is answered.
use Rattle.std.specs.Prelude.{◌≡◌, ◌⊎◌, ⊤, ℕ, true, List, [], ◌∷◌, ◌++◌, codes, Option, None}
use Rattle.osn_core.specs.Sequential.{ObjectState}
use Rattle.osn_folder.specs.Folder.{FolderModel, Changes, HasNoFile, IsCauseAt, IsFileOf, Opens}
use Rattle.osn_folder.specs.Folder.{Stays}
use Rattle.osn_folder.specs.declared.fault.ChangeCause.{ChangeCause}
use Rattle.osn_folder.specs.declared.fault.ChangeCause.TheVariants as changes
use Rattle.osn_folder.specs.declared.fault.OpenFailed.{OpenFailed}
use Rattle.osn_folder.specs.declared.fault.OpenFailed.TheVariants.{NotFound, NoFolder}
use Rattle.osn_folder.specs.declared.fault.OpenFailed.TheVariants.{PermissionDenied}
use Rattle.osn_lines.specs.declared.whole.ReadAllFault.{ReadAllFault}
use Rattle.osn_lines.specs.declared.whole.ReadAllFault.TheVariants as read_faults
use Rattle.osn_lines.specs.Lines.{lines}
use Rattle.osn_lines.specs.Streams.{Output}
use Rattle.osn_days.specs.Rules.{newest_rules}
use Rattle.osn_files.specs.Journal.{load}
use Rattle.osn_files.specs.declared.fault.FileFault.{FileFault}
use Rattle.osn_files.specs.declared.fault.FileFault.TheVariants as file_faults
use Rattle.osn_files.specs.declared.fault.LineFault.{LineFault}
use Rattle.osn_register.specs.declared.limits.Limits.{Limits}
use Rattle.osn_report.specs.Journal.{MakesObject}
use Rattle.osn_report.specs.Messages.{EndsBy, ReportsAt, ReportsIfMade}
use Rattle.osn_report.specs.declared.fault.CommandFault.TheVariants as command_faults
use Rattle.osn_report.specs.declared.status.Status.{Status}
use Rattle.osn_report.specs.declared.status.Status.TheVariants as statuses
use Rattle.osn_lines.specs.Escape.{escaped_text}
use Rattle.std.specs.Prelude.{Some, Err}
use Rattle.osn_serve_commands.specs.declared.target.SaveTarget.{SaveTarget}
use Rattle.osn_serve_commands.specs.declared.target.SaveTarget.TheVariants.{NoFile, Empty}
use Rattle.osn_serve_commands.specs.declared.target.SaveTarget.TheVariants.{Journal}
use Rattle.osn_serve_commands.specs.declared.target.TargetFault.{TargetFault}
use Rattle.osn_serve_commands.specs.declared.target.TargetFault.TheVariants.{NoJournal}
use Rattle.osn_serve_commands.specs.declared.target.TargetFault.TheVariants.{NotOpened, NotRead}
use Rattle.osn_serve_commands.specs.declared.target.TargetFault.TheVariants.{NoMemory}

abbrev pub by_read : ReadAllFault → TargetFault
by_read read_faults.NoMemory = NoMemory
by_read read_faults.ReadFault = NotRead

abbrev pub by_load : FileFault → TargetFault
by_load (file_faults.BadLine role line why) = NoJournal
by_load file_faults.ReadFault = NotRead
by_load file_faults.NoMemory = NoMemory

-- ---- what a file is, by its bytes

-- a file without a byte, or a journal that makes an object
abbrev pub HoldsTarget : Limits → List ℕ → SaveTarget → Type 0
HoldsTarget limits content NoFile = ⊥
HoldsTarget limits content Empty = content ≡ []
HoldsTarget limits content Journal = (s : ObjectState) × MakesObject limits (Some content) s

-- something else, which makes no object
abbrev pub HoldsNoTarget : Limits → List ℕ → TargetFault → Type 0
HoldsNoTarget limits content NoJournal =
    (refused : ℕ × LineFault) × (load newest_rules limits (lines content) ≡ Err refused)
HoldsNoTarget limits content (NotOpened cause) = ⊥
HoldsNoTarget limits content NotRead = ⊤
HoldsNoTarget limits content NoMemory = ⊤

-- ---- what is at a path

-- the file of this path was opened and read whole
abbrev pub ReadsWhole : List ℕ → List ℕ → Option FolderModel → Option FolderModel → Type 0
ReadsWhole path content before after =
    Changes (Opens (path ∷ [])) before after × IsFileOf before path (Some content)

-- no file is there: nothing, or what is not a file
abbrev pub FindsNoFile : List ℕ → FolderModel → FolderModel → Type 0
FindsNoFile path k n =
    (Stays k n × (k.paths.is_stream path ≡ true))
    ⊎ (Opens (path ∷ []) k n × (k.at path ≡ None) × (NotFound ≡ k.paths.cause path))

abbrev pub IsTarget : Limits → List ℕ → Option FolderModel → Option FolderModel → SaveTarget
    → Type 0
IsTarget limits path before after NoFile = Changes (FindsNoFile path) before after
IsTarget limits path before after Empty = ReadsWhole path [] before after
IsTarget limits path before after Journal =
    (content : List ℕ) × ReadsWhole path content before after × HoldsTarget limits content Journal

-- why no journal is saved at a path that can't be opened, by the cause of that
abbrev pub cause_of : OpenFailed → ChangeCause
cause_of NoFolder = changes.NoFolder
cause_of PermissionDenied = changes.PermissionDenied
cause_of cause = changes.Other

-- a journal can't be saved over what is there, by this fault
abbrev pub IsNoTarget : Limits → List ℕ → Option FolderModel → Option FolderModel → TargetFault
    → Type 0
IsNoTarget limits path before after NoJournal =
    (content : List ℕ) × ReadsWhole path content before after
    × HoldsNoTarget limits content NoJournal
IsNoTarget limits path before after (NotOpened cause) =
    Changes (Opens (path ∷ [])) before after × HasNoFile before path
    × (why : OpenFailed) × (cause ≡ cause_of why) × IsCauseAt before path why
IsNoTarget limits path before after NotRead = Changes (Opens (path ∷ [])) before after
IsNoTarget limits path before after NoMemory = Changes (Opens (path ∷ [])) before after

-- ---- what is printed

-- what is printed about a file that no journal is saved to
abbrev pub target_text : List ℕ → List ℕ → List ℕ
target_text path why = codes "oldstyle: write fault\nhelp: "
    ++ (escaped_text path ++ (codes " " ++ (why ++ codes ": name another file for --save\n")))

abbrev pub ReportsTarget : List ℕ → Output → TargetFault → Status → Type 0
ReportsTarget path e NoJournal status = ReportsIfMade e statuses.WriteFault
    (target_text path (codes "is not a journal, and is left as it is")) status
ReportsTarget path e (NotOpened cause) status =
    ReportsAt path e (command_faults.NotSaved cause) status
ReportsTarget path e NotRead status = ReportsIfMade e statuses.WriteFault
    (target_text path (codes "can't be read, and is left as it is")) status
ReportsTarget path e NoMemory status = EndsBy e command_faults.NoMemory status
