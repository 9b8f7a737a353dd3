-- Why the file of a journal is not kept, as far as that was found out by opening files, and what is
-- printed about it. This project's profile.
use Rattle.std.specs.Prelude.{◌≡◌, ⊤, ◌==◌, if◌then◌else◌, ℕ, Bool, true, false, List, [], ◌∷◌}
use Rattle.std.specs.Prelude.{◌++◌, length, codes, Option, Some, None, option_map, option_and_then}
use Rattle.std.specs.Path.{path_parent}
use Rattle.osn_folder.specs.Folder.{CannotKeep, Changes, HasNoFile, IsFileOf, IsKeptAt, Keeps}
use Rattle.osn_folder.specs.Folder.{FolderModel, Leaves, Opens, Stays, path_if}
use Rattle.osn_folder.specs.declared.fault.KeepFault.{KeepFault}
use Rattle.osn_folder.specs.declared.fault.KeepFault.TheVariants as faults
use Rattle.osn_folder.specs.declared.fault.OpenFailed.{OpenFailed}
use Rattle.osn_folder.specs.declared.fault.OpenFailed.TheVariants as opens
use Rattle.osn_lines.specs.Streams.{Output}
use Rattle.osn_report.specs.declared.status.Status.{Status}
use Rattle.osn_lines.specs.Escape.{escaped_text}
use Rattle.osn_commands.specs.Note.{ReportsNote}
use Rattle.osn_commands.specs.declared.hindrance_cause.KeepCause.{KeepCause}
use Rattle.osn_commands.specs.declared.hindrance_cause.KeepCause.TheVariants as causes

-- a folder that has a name: the folder of a bare name has none
abbrev pub if_named : List ℕ → Option (List ℕ)
if_named folder = if length folder == 0 then None else Some folder

-- the folder that a path names before its last part, if it names one
abbrev pub folder_of : List ℕ → Option (List ℕ)
folder_of path = option_and_then if_named (path_parent path)

-- ---- the cause

-- what is at the path is not a file
abbrev pub FindsStream : List ℕ → FolderModel → FolderModel → Type 0
FindsStream path k n = Stays k n × (k.paths.is_stream path ≡ true)

-- no file of this path was found, and its folder was looked for
abbrev pub LooksBeside : List ℕ → Option FolderModel → Option FolderModel → Type 0
LooksBeside path before after =
    HasNoFile before path
    × (between : Option FolderModel) × Changes (Opens (path ∷ [])) before between
    × Changes (Opens (path_if (folder_of path))) between after

-- why a file that no other run has is not kept, which could not be opened to be written to for a
-- cause that the system said
abbrev pub FindsCause : List ℕ → OpenFailed → Option FolderModel → Option FolderModel → KeepCause
    → Type 0
FindsCause path failure before after causes.Held = ⊥
FindsCause path failure before after causes.NoFile = Changes (FindsStream path) before after
FindsCause path failure before after causes.Denied =
    Changes (Opens (path ∷ [])) before after × HasNoFile before path
FindsCause path failure before after causes.NotRead =
    Changes (Opens (path ∷ [])) before after × HasNoFile before path
FindsCause path failure before after (causes.NotWritten why) =
    (why ≡ failure) × Changes (Opens (path ∷ [])) before after
    × (file : Option (List ℕ)) × IsFileOf before path file
FindsCause path failure before after causes.NoFolder = LooksBeside path before after
FindsCause path failure before after (causes.NotMade why) =
    (why ≡ failure) × LooksBeside path before after

-- the cause after a fault: that another run has the file, or what was found
abbrev pub IsCauseOf : List ℕ → Option FolderModel → Option FolderModel → KeepFault → KeepCause
    → Type 0
IsCauseOf path before after faults.Held cause = (cause ≡ causes.Held) × (after ≡ before)
IsCauseOf path before after (faults.NotOpened failure) cause =
    FindsCause path failure before after cause

-- ---- before a publish

-- the file was kept and given back as it was
abbrev pub KeepsForNow : List ℕ → Option FolderModel → Option FolderModel → Type 0
KeepsForNow path before after =
    (between : Option FolderModel) × Changes (Keeps path) before between
    × (contents : Option (List ℕ)) × IsKeptAt before path contents
    × Changes (Leaves path contents) between after

-- it could not be
abbrev pub CannotKeepBy : List ℕ → Option FolderModel → Option FolderModel → KeepCause → Type 0
CannotKeepBy path before after cause =
    (fault : KeepFault) × (tried : Option FolderModel) × Changes
    (CannotKeep path fault) before tried
    × IsCauseOf path tried after fault cause

-- the cause is that the folder is not there, if there is one
abbrev pub IsNoFolderIf : Option KeepCause → Type 0
IsNoFolderIf None = ⊤
IsNoFolderIf (Some cause) = cause ≡ causes.NoFolder

-- why the file of a path would not be kept, which is there or not. If it is not, it was not made
abbrev pub FindsHindrance : List ℕ → Bool → Option FolderModel → Option FolderModel
    → Option KeepCause
    → Type 0
FindsHindrance path false before after cause =
    IsNoFolderIf cause × Changes (Opens (path_if (folder_of path))) before after
FindsHindrance path true before after None = KeepsForNow path before after
FindsHindrance path true before after (Some cause) = CannotKeepBy path before after cause

-- ---- what is printed

-- on a file that can be read, and can't be opened to be written to
abbrev pub write_words : OpenFailed → List ℕ
write_words opens.PermissionDenied = codes "permission denied: publish writes to it"
write_words cause =
    codes "it can't be opened for writing and locked, as on a read-only disk or without memory"

-- on a file that is not there, and can't be made
abbrev pub make_words : OpenFailed → List ℕ
make_words opens.PermissionDenied = codes "permission denied: publish creates it in its folder"
make_words opens.NotFound = codes "no such file: it may be a link that leads nowhere"
make_words cause =
    codes "it can't be created and locked, as on a read-only disk or without memory"

abbrev pub cause_words : KeepCause → List ℕ
cause_words causes.Held = codes "another run of the program keeps that journal"
cause_words causes.NoFile = codes "it is a folder or a pipe, not a file"
cause_words causes.Denied = codes "permission denied"
cause_words causes.NotRead = codes "read fault"
cause_words (causes.NotWritten why) = write_words why
cause_words causes.NoFolder = codes "there is no such folder"
cause_words (causes.NotMade why) = make_words why

unfoldable pub no_folder_line : List ℕ → List ℕ → List ℕ
no_folder_line path folder = codes "oldstyle: "
    ++ (escaped_text path
    ++ (codes ": there is no folder " ++ (escaped_text folder ++ codes ": make it first\n")))

abbrev pub cause_line : List ℕ → KeepCause → List ℕ
cause_line path cause =
    codes "oldstyle: " ++ (escaped_text path ++ (codes ": " ++ (cause_words cause ++ codes "\n")))

abbrev pub folder_line : List ℕ → Option (List ℕ) → List ℕ
folder_line path None = cause_line path causes.NoFolder
folder_line path (Some folder) = no_folder_line path folder

-- the line on why the file of a path is not kept
abbrev pub unkept_line : List ℕ → KeepCause → List ℕ
unkept_line path causes.NoFolder = folder_line path (folder_of path)
unkept_line path cause = cause_line path cause

-- it was found why the file would not be kept, and reported
abbrev pub ReportsHindrance : List ℕ → Bool → Option FolderModel → Option FolderModel → Output
    → Status → Type 0
ReportsHindrance path is_there before after e status =
    (cause : Option KeepCause) × FindsHindrance path is_there before after cause
    × ReportsNote (option_map (unkept_line path) cause) e status
