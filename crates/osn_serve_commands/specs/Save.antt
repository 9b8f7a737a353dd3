-- The file that a journal is saved to: how it was locked, and how it was reported that it isn't
-- sure that the journal is saved.
use Rattle.std.specs.Prelude.{◌≡◌, ◌⊎◌, ℕ, Bool, true, false, List, ◌++◌, codes}
use Rattle.std.specs.Prelude.{Option, Some, None}
use Rattle.std.specs.Prelude.{string_bytes}
use Rattle.osn_folder.specs.Crash.{SavesSafely, CannotSaveSafely, SavesBeside, CannotSaveBeside}
use Rattle.osn_folder.specs.Folder.{FolderModel, Changes, Locks, CannotLock}
use Rattle.osn_folder.specs.declared.fault.KeepFault.{KeepFault}
use Rattle.osn_folder.specs.declared.fault.SaveFault.{SaveFault}
use Rattle.osn_folder.specs.declared.fault.SaveFault.TheVariants as faults
use Rattle.osn_lines.specs.Streams.{Output}
use Rattle.osn_report.specs.Messages.{Ends, EndsBy, ReportsAt, ReportsIfMade, ReportsLine}
use Rattle.osn_report.specs.declared.fault.CommandFault.TheVariants.{NoMemory, NotSaved}
use Rattle.osn_report.specs.declared.status.Status.{Status}
use Rattle.osn_lines.specs.Escape.{escaped_text}
use Rattle.osn_report.specs.declared.status.Status.TheVariants as statuses

-- the file of this path was locked, if there is one
abbrev pub LocksIf : Option (List ℕ) → Option FolderModel → Option FolderModel → Type 0
LocksIf None before after = after ≡ before
LocksIf (Some path) before after = Changes (Locks path) before after

-- it could not be locked, by this fault
abbrev pub CannotLockIf : Option (List ℕ) → KeepFault → Option FolderModel → Option FolderModel
    → Type 0
CannotLockIf None fault before after = ⊥
CannotLockIf (Some path) fault before after = Changes (CannotLock path fault) before after

-- the line on a file that is not what it was, and on the one that has the journal
abbrev pub changed_line : List ℕ → List ℕ
changed_line unfinished =
    codes "oldstyle: the file was changed meanwhile, and is left as it is: the journal is in "
    ++ (escaped_text unfinished ++ codes "\n")

-- the line on a journal that is in its file, but maybe not on the disk
abbrev pub not_synced_line : List ℕ
not_synced_line = codes "oldstyle: the journal is saved, but may not be on the disk yet\n"

-- it was reported why it isn't sure that the journal is saved in the file of this path
abbrev pub ReportsUnsaved : List ℕ → Output → SaveFault → Status → Type 0
ReportsUnsaved path e faults.NoMemory status = EndsBy e NoMemory status
ReportsUnsaved path e (faults.WriteFault cause) status = ReportsAt path e (NotSaved cause) status
ReportsUnsaved path e faults.NotSynced status =
    ReportsLine e statuses.WriteFault not_synced_line status
ReportsUnsaved path e (faults.Changed unfinished) status =
    ReportsIfMade e statuses.WriteFault (changed_line (string_bytes unfinished)) status

-- ---- how a journal was saved

-- the line on a journal that was at a path, and on the path that it is at now
abbrev pub beside_line : List ℕ → List ℕ → List ℕ
beside_line path backup = codes "note: "
    ++ (escaped_text path
    ++ (codes " contained another journal, which is now " ++ (escaped_text backup ++ codes "\n")))

-- a journal was saved at a path, and what was loaded was unchanged, if that is given; or in place
-- of another journal, which is beside it now, and its path was reported
abbrev pub SavesAs : Bool → Option (List ℕ) → List ℕ → List ℕ → Option FolderModel
    → Option FolderModel
    → Output → Status → Type 0
SavesAs false loaded_bytes path text before after e status =
    Ends e None status × SavesSafely path loaded_bytes text before after
SavesAs true loaded_bytes path text before after e status =
    (backup : List ℕ) × Changes (SavesBeside path backup text) before after
    × ReportsIfMade e statuses.Done (beside_line path backup) status

-- it isn't sure that the journal is saved, by this fault
abbrev pub CannotSaveAs : Bool → Option (List ℕ) → List ℕ → List ℕ → SaveFault → Option FolderModel
    → Option FolderModel → Type 0
CannotSaveAs false loaded_bytes path text fault before after =
    CannotSaveSafely path loaded_bytes text fault before after
CannotSaveAs true loaded_bytes path text fault before after =
    Changes (CannotSaveBeside path text fault) before after

-- the journal was saved; or it was reported why that isn't sure
abbrev pub FinishesSave : Bool → Option (List ℕ) → List ℕ → List ℕ → Option FolderModel
    → Option FolderModel
    → Output → Status → Type 0
FinishesSave beside loaded_bytes path text before after e status =
    SavesAs beside loaded_bytes path text before after e status
    ⊎ ((fault : SaveFault) × CannotSaveAs beside loaded_bytes path text fault before after
    × ReportsUnsaved path e fault status)
