-- What became of one change, and of its line.
use Rattle.std.specs.Prelude.{◌≡◌, ⊤, ℕ, List, take, Some, Result, Ok, Err}
use Rattle.std.specs.Io.KnownBytes.{Appends}
use Rattle.osn_core.specs.Sequential.{ObjectState, HasLawfulSource}
use Rattle.osn_folder.specs.declared.fault.KeptFileFault.{KeptFileFault}
use Rattle.osn_files.specs.JournalText.{edit_data, publish_data, line_text}
use Rattle.osn_service.specs.Change.{changed}
use Rattle.osn_service.specs.declared.store.Change.{Change}
use Rattle.osn_service.specs.declared.store.Change.TheVariants.{Stage, Publish}
use Rattle.osn_service.specs.declared.store.StoreFault.{StoreFault}
use Rattle.osn_service.specs.declared.store.StoreFault.TheVariants.{NoMemory, NotKept}
use Rattle.osn_journal.specs.KeptJournal.{FileState}

-- the line of a change
abbrev pub change_line : Change → List ℕ
change_line (Stage edit) = line_text (edit_data edit)
change_line Publish = line_text publish_data

-- the source of a change is one that may be given
abbrev pub GivesLawful : Change → Type 0
GivesLawful (Stage edit) = HasLawfulSource edit
GivesLawful Publish = ⊤

-- a line was appended, and no more than before is on the disk for sure
pub record IsAppended (line : List ℕ) (old new : FileState) : Type 0 where
  pub journal : Appends old.contents new.contents line
  pub disk : new.synced ≡ old.synced
  pub sound : new.fault ≡ old.fault

-- a line was appended, and all that the file contains is on the disk
pub record IsSynced (line : List ℕ) (old new : FileState) : Type 0 where
  pub journal : Appends old.contents new.contents line
  pub disk : new.synced ≡ new.contents
  pub sound : new.fault ≡ old.fault

-- the file failed, and the first bytes of a line were appended
pub record FailsAtLine (line : List ℕ) (old new : FileState) (why : KeptFileFault) : Type 0 where
  pub bytes : ℕ
  pub journal : Appends old.contents new.contents (take bytes line)
  pub disk : new.synced ≡ old.synced
  pub reason : new.fault ≡ Some why

-- the line of a change was appended, and that of a publish is on the disk
abbrev pub HasLine : Change → List ℕ → FileState → FileState → Type 0
HasLine (Stage edit) line old new = IsAppended line old new
HasLine Publish line old new = IsSynced line old new

-- what became of a change of an object that was s and is t, and of the file
abbrev pub ChangeResult : {A : Type 0} → Change → ObjectState → ObjectState → FileState → FileState
    → Result A (StoreFault KeptFileFault) → Type 0
ChangeResult change s t old new (Ok _) =
    (t ≡ changed s change) × GivesLawful change × HasLine change (change_line change) old new
ChangeResult change s t old new (Err NoMemory) = (t ≡ s) × (new ≡ old)
ChangeResult change s t old new (Err (NotKept why)) =
    (t ≡ changed s change) × FailsAtLine (change_line change) old new why
