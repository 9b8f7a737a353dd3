-- What the service has done over the files of a folder. They are the one that a journal is loaded
-- from, the one that it is saved to, and the one that it is kept in.
use Rattle.std.specs.Prelude.{◌≡◌, ◌⊎◌, Bool, List, [], ℕ, Option, Some, None, IfSome, option_map}
use Rattle.std.specs.Prelude.{Result, Ok, Err, true, false, if◌then◌else◌, unwrap_or}
use Rattle.std.specs.Str.{bytes_eq}
use Rattle.std.specs.declared.convert.Infallible.{Infallible}
use Rattle.osn_core.specs.Sequential.{ObjectState}
use Rattle.osn_register.specs.declared.limits.Limits.{Limits}
use Rattle.osn_lines.specs.Faults.{IsReadFault}
use Rattle.osn_lines.specs.Streams.{Input, Output}
use Rattle.osn_lines.specs.declared.fault.EndedEarly.{EndedEarly}
use Rattle.osn_files.specs.JournalText.{journal_text}
use Rattle.osn_files.specs.declared.fault.FileFault.{FileFault}
use Rattle.osn_files.specs.declared.fault.FileFault.TheVariants.{ReadFault}
use Rattle.osn_folder.specs.Crash.{LeavesAllSafe}
use Rattle.osn_folder.specs.Folder.{FolderModel, Changes, IsFileIf, Opens, path_if}
use Rattle.osn_folder.specs.Folder.{Keeps, CannotKeep, IsKeptAt, Leaves, Stays}
use Rattle.osn_journal.specs.Arrivals.{Arrival}
use Rattle.osn_folder.specs.declared.fault.KeepFault.{KeepFault}
use Rattle.osn_invocation.specs.Invocation.{ServiceModel}
use Rattle.osn_journal.specs.KeptJournal.{FileState}
use Rattle.osn_service.specs.Serves.{ServesStore}
use Rattle.osn_service.specs.declared.fault.ServiceFault.{ServiceFault}
use Rattle.osn_service.specs.declared.rules.ServeRules.{ServeRules}
use Rattle.osn_service.specs.declared.service.Served.{Served}
use Rattle.osn_report.specs.Folders.{Folders}
use Rattle.osn_report.specs.Journal.{Begins, BeginsNot}
use Rattle.osn_report.specs.Printing.{PrintsNone, PrintsNoneAt}
use Rattle.osn_report.specs.Messages.{Ends, EndsBy}
use Rattle.osn_report.specs.declared.fault.CommandFault.{CommandFault}
use Rattle.osn_report.specs.declared.fault.CommandFault.TheVariants.{File, Keep, NoMemory}
use Rattle.osn_report.specs.declared.status.Status.{Status}
use Rattle.osn_serve_commands.specs.Follow.{EndsFollowed}
use Rattle.osn_serve_commands.specs.Keep.{EndsKept, first_output, later_output}
use Rattle.osn_serve_commands.specs.Mode.{ModeModel, loading, keeping, upgrading, following}
use Rattle.osn_serve_commands.specs.Mode.{mode_by}
use Rattle.osn_serve_commands.specs.SaveTarget.{IsTarget, IsNoTarget, ReportsTarget}
use Rattle.osn_serve_commands.specs.Save.{LocksIf, CannotLockIf, FinishesSave}
use Rattle.osn_serve_commands.specs.declared.target.SaveTarget.{SaveTarget}
use Rattle.osn_serve_commands.specs.declared.target.SaveTarget.TheVariants.{NoFile, Empty}
use Rattle.osn_serve_commands.specs.declared.target.SaveTarget.TheVariants.{Journal}
use Rattle.osn_serve_commands.specs.declared.target.TargetFault.{TargetFault}
use Rattle.osn_serve_commands.specs.Serve.{EndsServed}
use Rattle.osn_serve_commands.specs.Upgrade.{CannotUpgrade, Upgrades}

-- what the lines of the service may do, and when it ends, by the options: a source is taken
abbrev pub rules_of : ServiceModel → ServeRules
rules_of asked = record {
  readers = asked.readers;
  read_only = asked.read_only;
  takes_sources = true;
  stop_at_refusal = asked.stop_at_refusal;
  explains = asked.explains;
  strict_members = asked.strict_members;
}

-- ---- the service that keeps no file

-- the path that the journal is loaded from and saved to, if it is one
abbrev pub replaced_path : Option (List ℕ) → Option (List ℕ) → Option (List ℕ)
replaced_path (Some journal) (Some save) = if bytes_eq journal save then Some journal else None
replaced_path journal save = None

-- the bytes that the file which the journal was loaded from and is saved to must still contain:
-- those that were loaded, if they are known
abbrev pub IsLoadedContent : Option Input → Option (List ℕ) → Type 0
IsLoadedContent initial loaded_bytes =
    IfSome initial (λ journal. IfSome journal.bytes (λ bytes. loaded_bytes ≡ Some bytes))

-- the journal of an object was saved to a path, if one is given, or it was reported why that isn't
-- sure. Otherwise nothing was written in the folder
abbrev pub EndsSaving : Option (List ℕ) → Option (List ℕ) → Bool → ObjectState → Option FolderModel
    → Option FolderModel → Output → Status → Type 0
EndsSaving None loaded_bytes beside t opened after e status = (after ≡ opened) × Ends e None status
EndsSaving (Some path) loaded_bytes beside t opened after e status =
    ((after ≡ opened) × EndsBy e NoMemory status)
    ⊎ FinishesSave beside loaded_bytes path (journal_text t) opened after e status

-- The journal, if any, makes an object, and the lines were answered from it. If all were, its
-- journal was saved.
pub record ServesAndSaves (limits : Limits) (save : Option (List ℕ)) (rules : ServeRules)
    (initial : Option Input) (loaded_bytes : Option (List ℕ)) (beside : Bool)
    (opened after : Option FolderModel) (i : Input) (o e : Output) (status : Status) : Type 0 where
  pub first : ObjectState
  pub last : ObjectState
  pub result : Result Served (EndedEarly (ServiceFault Infallible))
  pub begins : Begins limits initial first
  pub serves : ServesStore rules first last i o result
  pub ended : EndsServed result e status
      (EndsSaving save loaded_bytes beside last opened after e status)
      (after ≡ opened) (λ never. ⊥)

-- a read of the journal, if there is one, failed only if one of its kind can
abbrev pub CanFailIf : (Bool → Type 0) → Option Input → Type 0
CanFailIf CanFail initial = IfSome initial (λ journal. CanFail journal.unread)

-- how a run of the service ended, whose journal has this path. It had no object to begin with, and
-- wrote nothing; or it answered the lines, and its journal was saved
abbrev pub EndsServing : Limits → List ℕ → Option (List ℕ) → ServeRules → Option Input
    → Option (List ℕ) → Bool → Option FolderModel → Option FolderModel → Input → Output → Output
    → Status
    → Type 0
EndsServing limits path save rules initial loaded_bytes beside opened after i o e status =
    ((fault : FileFault) × BeginsNot limits initial fault × (after ≡ opened)
    × PrintsNoneAt path (File fault) o e status)
    ⊎ ServesAndSaves limits save rules initial loaded_bytes beside opened after i o e status

-- the bytes that a file which a journal is saved over must still contain, by what was found there
abbrev pub bytes_of : SaveTarget → Option (List ℕ)
bytes_of Empty = Some []
bytes_of NoFile = None
bytes_of Journal = None

-- a journal that is found is left beside the one that is saved
abbrev pub is_left_beside : SaveTarget → Bool
is_left_beside Journal = true
is_left_beside NoFile = false
is_left_beside Empty = false

-- what was found at the path of a save, if there is one
abbrev pub FindsTarget : Limits → Option (List ℕ) → Option FolderModel → Option FolderModel
    → SaveTarget
    → Type 0
FindsTarget limits None before after found = (after ≡ before) × (found ≡ NoFile)
FindsTarget limits (Some path) before after found = IsTarget limits path before after found

-- no journal is saved over what was found there, by this fault
abbrev pub FindsNoTarget : Limits → Option (List ℕ) → Option FolderModel → Option FolderModel
    → TargetFault
    → Type 0
FindsNoTarget limits None before after fault = ⊥
FindsNoTarget limits (Some path) before after fault = IsNoTarget limits path before after fault

-- it was reported, before a line was answered, why no journal is saved
abbrev pub RefusesTarget : Limits → Option (List ℕ) → Option FolderModel → Option FolderModel
    → Output → Output
    → Status → Type 0
RefusesTarget limits save before after o e status =
    (fault : TargetFault) × FindsNoTarget limits save before after fault × (o.new ≡ o.old)
    × ReportsTarget (unwrap_or save []) e fault status

-- the service was run, and its journal saved over what was found at its path; or that was refused
abbrev pub SavesOverFound : Limits → List ℕ → Option (List ℕ) → ServeRules → Option Input
    → Option FolderModel → Option FolderModel → Input → Output → Output → Status → Type 0
SavesOverFound limits path save rules initial opened after i o e status =
    RefusesTarget limits save opened after o e status
    ⊎ ((found : SaveTarget) × (looked : Option FolderModel)
    × FindsTarget limits save opened looked found × Changes LeavesAllSafe opened looked
    × EndsServing limits path save rules initial (bytes_of found) (is_left_beside found) looked
    after
    i o e status)

-- a journal could not be read whole: a read of it failed, or there was no memory for it
abbrev pub IsNotReadWhole : Input → CommandFault → Type 0
IsNotReadWhole journal fault =
    (fault ≡ NoMemory)
    ⊎ ((fault ≡ File ReadFault) × IsReadFault journal.unread journal.bytes)

-- a journal that is replaced is read whole first: it could not be, and nothing was done; or the
-- service was run, and its journal saved if that file was unchanged
abbrev pub SavesOverLoaded : Limits → List ℕ → Option (List ℕ) → ServeRules → Option Input
    → Option FolderModel → Option FolderModel → Input → Output → Output → Status → Type 0
SavesOverLoaded limits path save rules initial opened after i o e status =
    ((fault : CommandFault) × IfSome initial (λ journal. IsNotReadWhole journal fault)
    × (after ≡ opened) × PrintsNoneAt path fault o e status)
    ⊎ ((loaded_bytes : Option (List ℕ)) × IsLoadedContent initial loaded_bytes
    × EndsServing limits path save rules initial loaded_bytes false opened after i o e status)

-- the service was run, and its journal saved: over the file that it was loaded from, or over what
-- was found at another path
abbrev pub ServesOver : Option (List ℕ) → Limits → List ℕ → Option (List ℕ) → ServeRules
    → Option Input → Option FolderModel → Option FolderModel → Input → Output → Output → Status
    → Type 0
ServesOver (Some replaced) limits path save rules initial opened after i o e status =
    SavesOverLoaded limits path save rules initial opened after i o e status
ServesOver None limits path save rules initial opened after i o e status =
    SavesOverFound limits path save rules initial opened after i o e status

-- The service was run, from what the journal contains, and the journal that it left was saved.
pub record RunsService (limits : Limits) (journal save : Option (List ℕ)) (rules : ServeRules)
    (CanFail : Bool → Type 0) (d : Folders) (i : Input) (o e : Output) (status : Status) : Type 0
  where
    pub initial : Option Input
    pub opened : Option FolderModel
    pub file : IsFileIf d.before journal (option_map (λ journal. journal.bytes) initial)
    pub fails : CanFailIf CanFail initial
    pub opens : Changes (Opens (path_if journal)) d.before opened
    pub crash : Changes LeavesAllSafe d.before opened
    pub ended : ServesOver (replaced_path journal save) limits (unwrap_or journal []) save rules
        initial opened d.after i o e status

-- the file that the journal is saved to could not be locked; or it was, and the service was run
abbrev pub EndsService : Limits → Option (List ℕ) → Option (List ℕ) → ServeRules → (Bool → Type 0)
    → Folders → Input → Output → Output → Status → Type 0
EndsService limits journal save rules CanFail d i o e status =
    ((fault : KeepFault) × CannotLockIf save fault d.before d.after
    × PrintsNoneAt (unwrap_or save []) (Keep fault) o e status)
    ⊎ ((between : Option FolderModel) × LocksIf save d.before between
    × RunsService limits journal save rules CanFail
    (record { before = between; after = d.after }) i o e status)

-- ---- the service of a journal that is kept

-- the file of this path could not be kept; or it is, no change of it had failed before, and the
-- service was run with what it contains. The folder has then what the service left in the file
abbrev pub EndsKeeping : Limits → List ℕ → ServeRules → (Bool → Type 0) → Folders → Input → Output
    → Output → Status → Type 0
EndsKeeping limits path rules CanFail d i o e status =
    ((fault : KeepFault) × Changes (CannotKeep path fault) d.before d.after
    × PrintsNoneAt path (Keep fault) o e status)
    ⊎ ((between : Option FolderModel) × Changes (Keeps path) d.before between
    × (initial : FileState) × IsKeptAt d.before path initial.contents × (initial.fault ≡ None)
    × (input : Input) × (input.bytes ≡ initial.contents) × CanFail input.unread
    × (file : FileState) × EndsKept limits path rules initial file input i o e status
    × Changes (Leaves path file.contents) between d.after)

-- The file of this path was rewritten first, if its version has no sources, and then it was kept.
pub record UpgradesAndKeeps (limits : Limits) (path : List ℕ) (rules : ServeRules)
    (CanFail : Bool → Type 0) (d : Folders) (i : Input) (o e : Output) (status : Status) : Type 0
  where
    pub upgraded : Option FolderModel
    pub between : Option (List ℕ)
    pub failed : Bool
    pub held_back : Bool
    pub upgrades : Upgrades limits path CanFail
        (record { before = d.before; after = upgraded }) (first_output e between failed held_back)
    pub keeps : EndsKeeping limits path rules CanFail
        (record { before = upgraded; after = d.after }) i o (later_output e between failed) status

-- the journal could not be upgraded, and no line was answered; or it was upgraded and kept
abbrev pub EndsUpgrading : Limits → List ℕ → ServeRules → (Bool → Type 0) → Folders → Input
    → Output → Output → Status → Type 0
EndsUpgrading limits path rules CanFail d i o e status =
    ((o.new ≡ o.old) × CannotUpgrade limits path CanFail d e status)
    ⊎ UpgradesAndKeeps limits path rules CanFail d i o e status

-- ---- the service of a journal that is followed

-- the file of this path was followed, and nothing in the folder was changed; or there was no memory
-- to do so
abbrev pub EndsFollowing : Limits → List ℕ → ServeRules → Folders → Output → Output → Status
    → Type 0
EndsFollowing limits path rules d o e status =
    Changes Stays d.before d.after
    × (PrintsNone NoMemory o e status
    ⊎ ((before : Option (List Arrival)) × (after : Option (List Arrival))
    × EndsFollowed limits path rules before after o e status))

-- ---- the service that the options ask for

-- the service was run that was asked for; or the options can't be used together, which was reported
abbrev pub RunsMode : Limits → Result ModeModel CommandFault → ServiceModel → (Bool → Type 0)
    → Folders → Input → Output → Output → Status → Type 0
RunsMode limits (Ok (loading journal save)) service CanFail d i o e status =
    EndsService limits journal save (rules_of service) CanFail d i o e status
RunsMode limits (Ok (keeping path)) service CanFail d i o e status =
    EndsKeeping limits path (rules_of service) CanFail d i o e status
RunsMode limits (Ok (upgrading path)) service CanFail d i o e status =
    EndsUpgrading limits path (rules_of service) CanFail d i o e status
RunsMode limits (Ok (following path)) service CanFail d i o e status =
    EndsFollowing limits path (rules_of service) d o e status
RunsMode limits (Err fault) service CanFail d i o e status =
    (d.after ≡ d.before) × PrintsNone fault o e status

-- the paths of the files that it opens to be read
abbrev pub opened_by : Result ModeModel CommandFault → List (List ℕ)
opened_by (Ok (loading journal save)) = path_if journal
opened_by mode = []

-- the service was run by its options: the journal to begin with, the file to save to, the journal
-- to keep and the one to follow, if they are given, and the rest
abbrev pub RunsServing : Limits → Option (List ℕ) → Option (List ℕ) → Option (List ℕ)
    → Option (List ℕ) → ServiceModel → (Bool → Type 0) → Folders → Input → Output → Output
    → Status → Type 0
RunsServing limits journal save kept followed service =
    RunsMode limits (mode_by service.upgrade kept followed journal save) service
