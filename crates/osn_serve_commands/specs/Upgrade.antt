-- What is done in a folder if a journal is rewritten, whole or not at all, and with one that will
-- be kept and is of a version that has no sources.
use Rattle.std.specs.Prelude.{◌≡◌, ◌⊎◌, ℕ, Bool, true, false, List, Option, Some, None, IfSome}
use Rattle.osn_register.specs.declared.limits.Limits.{Limits}
use Rattle.osn_core.specs.Sequential.{ObjectState}
use Rattle.osn_lines.specs.Streams.{Input, Output}
use Rattle.osn_request.specs.Version.{has_sources, newest_version}
use Rattle.osn_request.specs.declared.version.Version.{Version}
use Rattle.osn_files.specs.JournalText.{journal_text_of}
use Rattle.osn_folder.specs.Crash.{SavesSafely, CannotSaveSafely}
use Rattle.osn_folder.specs.Folder.{FolderModel, Changes, Keeps, CannotKeep, IsKeptAt, Leaves}
use Rattle.osn_folder.specs.Folder.{Locks}
use Rattle.osn_folder.specs.Folder.{CannotLock}
use Rattle.osn_folder.specs.declared.fault.KeepFault.{KeepFault}
use Rattle.osn_folder.specs.declared.fault.SaveFault.{SaveFault}
use Rattle.osn_report.specs.Folders.{Folders}
use Rattle.osn_report.specs.Messages.{ReportsAt}
use Rattle.osn_report.specs.declared.fault.CommandFault.{CommandFault}
use Rattle.osn_report.specs.declared.fault.CommandFault.TheVariants.{Keep}
use Rattle.osn_report.specs.declared.status.Status.{Status}
use Rattle.osn_serve_commands.specs.Keep.{HoldsNoObject, HoldsObject, ReportsCut, unfinished_line}
use Rattle.osn_serve_commands.specs.Save.{ReportsUnsaved}

-- ---- a text that is rewritten

-- the file of this path was locked, and a text put in its place, which still contained these bytes.
-- A crash of the machine leaves one of the two
abbrev pub SavesAnew : List ℕ → List ℕ → List ℕ → Option FolderModel → Option FolderModel → Type 0
SavesAnew path loaded_bytes text before after =
    (between : Option FolderModel) × Changes (Locks path) before between
    × SavesSafely path (Some loaded_bytes) text between after

-- the file of this path could not be locked; or it was, and it isn't sure that the text is saved.
-- It was reported why
abbrev pub CannotSaveAnew : List ℕ → List ℕ → List ℕ → Option FolderModel → Option FolderModel
    → Output → Status → Type 0
CannotSaveAnew path loaded_bytes text before after e status =
    ((fault : KeepFault) × Changes (CannotLock path fault) before after
    × ReportsAt path e (Keep fault) status)
    ⊎ ((between : Option FolderModel) × Changes (Locks path) before between
    × (fault : SaveFault) × CannotSaveSafely path (Some loaded_bytes) text fault between after
    × ReportsUnsaved path e fault status)

-- ---- a journal that will be kept

-- The file of this path was kept, this was read of it, and it was given back as it was.
pub record IsLookedAt (path : List ℕ) (CanFail : Bool → Type 0) (before after : Option FolderModel)
    (input : Input) : Type 0 where
  pub between : Option FolderModel
  pub keeps : Changes (Keeps path) before between
  pub contents : IsKeptAt before path input.bytes
  pub fails : CanFail input.unread
  pub leaves : Changes (Leaves path input.bytes) between after

-- what was read are these bytes, and they contain this object, in a journal of this version
abbrev pub IsReadAs : Limits → Input → List ℕ → Version → ObjectState → Type 0
IsReadAs limits input bytes version s =
    IfSome input.bytes (λ content. bytes ≡ content) × HoldsObject limits bytes version s

-- a journal was left if its version has sources. Otherwise it was rewritten, as one of the newest
-- version, and it was reported which line was cut off, if the last one was not finished
abbrev pub SavesIfOlder : Bool → List ℕ → List ℕ → ObjectState → Option FolderModel
    → Option FolderModel
    → Output → Type 0
SavesIfOlder true path bytes s before after e = (after ≡ before) × ReportsCut e None
SavesIfOlder false path bytes s before after e =
    SavesAnew path bytes (journal_text_of newest_version s) before after
    × ReportsCut e (unfinished_line bytes)

-- The file of this path was looked at, and contains a journal of a version that has sources now.
pub record Upgrades (limits : Limits) (path : List ℕ) (CanFail : Bool → Type 0) (d : Folders)
    (e : Output) : Type 0 where
  pub looked : Option FolderModel
  pub input : Input
  pub looks : IsLookedAt path CanFail d.before looked input
  pub bytes : List ℕ
  pub version : Version
  pub object : ObjectState
  pub reads : IsReadAs limits input bytes version object
  pub saves : SavesIfOlder (has_sources version) path bytes object looked d.after e

-- a journal that was read was not rewritten. It makes no object, or memory ran out, and it was
-- left; or it is of a version that has no sources, and could not be saved
abbrev pub CannotSaveOlder : Limits → List ℕ → Input → Option FolderModel → Option FolderModel
    → Output
    → Status → Type 0
CannotSaveOlder limits path input before after e status =
    ((fault : CommandFault) × (after ≡ before)
    × IfSome input.bytes (λ content. HoldsNoObject limits content input.unread fault)
    × ReportsAt path e fault status)
    ⊎ ((bytes : List ℕ) × (version : Version) × (s : ObjectState)
    × IsReadAs limits input bytes version s × (has_sources version ≡ false)
    × CannotSaveAnew path bytes (journal_text_of newest_version s) before after e status)

-- it is not sure that the file of this path contains a journal of a version that has sources. The
-- file could not be kept; or it was looked at, and a journal of an older version could not be saved
-- in it
abbrev pub CannotUpgrade : Limits → List ℕ → (Bool → Type 0) → Folders → Output → Status → Type 0
CannotUpgrade limits path CanFail d e status =
    ((fault : KeepFault) × Changes (CannotKeep path fault) d.before d.after
    × ReportsAt path e (Keep fault) status)
    ⊎ ((looked : Option FolderModel) ×
    (input : Input) × IsLookedAt path CanFail d.before looked input
    × CannotSaveOlder limits path input looked d.after e status)
