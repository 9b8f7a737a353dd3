-- What is known of a folder, and what was done in it.
use Rattle.std.specs.Prelude.{◌≡◌, ◌≢◌, ◌⊎◌, ◌↔◌, ⊤, ℕ, Bool, true, false, List, [], ◌∷◌, ◌++◌}
use Rattle.std.specs.Prelude.{Option, Some, None, IfSome, is_some, unwrap_or, if◌then◌else◌}
use Rattle.std.specs.Prelude.{string_bytes}
use Rattle.std.specs.List.{list_all}
use Rattle.osn_folder.specs.declared.fault.KeepFault.{KeepFault}
use Rattle.osn_folder.specs.declared.fault.KeepFault.TheVariants.{Held, NotOpened}
use Rattle.osn_folder.specs.declared.fault.OpenFailed.{OpenFailed}
use Rattle.osn_folder.specs.declared.fault.MoveFault.{MoveFault}
use Rattle.osn_folder.specs.declared.fault.MoveFault.TheVariants as moves
use Rattle.osn_folder.specs.declared.fault.SaveFault.{SaveFault}
use Rattle.osn_folder.specs.declared.fault.SaveFault.TheVariants as saves

-- what no call changes of paths: the place that a path leads to, through links, and whether
-- something is there that is not a file, such as a pipe. Also why nothing is opened there if there
-- is no file, and whether another run of the program keeps the file of it, or saves to it. And
-- whether anyone else puts another file there, or removes it, during this run
pub record Paths : Type 0 where
  pub place : List ℕ → List ℕ
  pub is_stream : List ℕ → Bool
  pub cause : List ℕ → OpenFailed
  pub is_held : List ℕ → Bool
  pub is_changed : List ℕ → Bool

-- what is known of a folder: what the file of a path contains, if there is one, and which paths
-- were opened to be read, in order. Also its paths, and whether the system has ever failed to keep,
-- lock or change a file
pub record FolderModel : Type 0 where
  pub at : List ℕ → Option (List ℕ)
  pub opened : List (List ℕ)
  pub paths : Paths
  pub has_failed : Bool
  -- whether the bytes of the file at a path are all on the disk
  pub is_whole : List ℕ → Bool
  -- what a crash of the machine may leave at a path now, and what one might have left there at this
  -- moment or an earlier one
  pub may_leave : List ℕ → List (Option (List ℕ))
  pub might_have_left : List ℕ → List (Option (List ℕ))

-- a change of a folder, if that is known
abbrev pub Changes : (FolderModel → FolderModel → Type 0) → Option FolderModel
    → Option FolderModel → Type 0
Changes Change None new = ⊤
Changes Change (Some k) None = ⊥
Changes Change (Some k) (Some n) = Change k n

-- nothing was changed
abbrev pub Stays : FolderModel → FolderModel → Type 0
Stays k n = n ≡ k

-- nothing was changed, except what a crash may leave
abbrev pub Syncs : FolderModel → FolderModel → Type 0
Syncs k n =
    (n.at ≡ k.at) × (n.opened ≡ k.opened) × (n.paths ≡ k.paths) × (n.has_failed ≡ k.has_failed)

-- the system failed, and nothing was changed
abbrev pub Fails : FolderModel → FolderModel → Type 0
Fails k n =
    (n.at ≡ k.at) × (n.opened ≡ k.opened) × (n.paths ≡ k.paths) × (n.has_failed ≡ true)

-- ---- reading

-- a file of this path was found, and will give what it contains
abbrev pub IsFileOf : Option FolderModel → List ℕ → Option (List ℕ) → Type 0
IsFileOf None path file = ⊤
IsFileOf (Some k) path file = (file ≡ k.at path) × (is_some file ≡ true)

-- no file of this path was found
abbrev pub HasNoFile : Option FolderModel → List ℕ → Type 0
HasNoFile None path = ⊤
HasNoFile (Some k) path = k.at path ≡ None

-- this is why nothing is opened at a path
abbrev pub IsCauseAt : Option FolderModel → List ℕ → OpenFailed → Type 0
IsCauseAt None path cause = ⊤
IsCauseAt (Some k) path cause = cause ≡ k.paths.cause path

-- nothing was changed, except that these paths were opened, in order
abbrev pub Opens : List (List ℕ) → FolderModel → FolderModel → Type 0
Opens paths k n =
    (n.opened ≡ k.opened ++ paths) × (n.at ≡ k.at)
    × (n.paths ≡ k.paths) × (n.has_failed ≡ k.has_failed)

-- the paths of these that are opened, if the first one without a file is the last
abbrev pub tried : (List ℕ → Option (List ℕ)) → List (List ℕ) → List (List ℕ)
tried at [] = []
tried at (path ∷ paths) = path ∷ (if is_some (at path) then tried at paths else [])

-- one of these paths has no file, and no path was opened after the first such
abbrev pub Misses : List (List ℕ) → FolderModel → FolderModel → Type 0
Misses paths k n =
    (list_all (λ path. is_some (k.at path)) paths ≡ false) × Opens (tried k.at paths) k n

-- a file of one of these paths could not be opened
abbrev pub CannotOpen : List (List ℕ) → Option FolderModel → Option FolderModel → Type 0
CannotOpen paths old new = (paths ≢ []) × Changes (Misses paths) old new

-- a path is one of these
abbrev pub IsOneOf : List (List ℕ) → List ℕ → Type 0
IsOneOf [] path = ⊥
IsOneOf (first ∷ paths) path = (path ≡ first) ⊎ IsOneOf paths path

-- the first of these paths that has no file
abbrev pub first_missed : (List ℕ → Option (List ℕ)) → List (List ℕ) → Option (List ℕ)
first_missed at [] = None
first_missed at (path ∷ paths) = if is_some (at path) then first_missed at paths else Some path

abbrev pub IsFirstMissed : List (List ℕ) → List ℕ → Option FolderModel → Type 0
IsFirstMissed paths path None = IsOneOf paths path
IsFirstMissed paths path (Some k) = first_missed k.at paths ≡ Some path

-- the file of this path, the first of these that has none, could not be opened, by this cause
abbrev pub IsOpenFailure : List (List ℕ) → List ℕ → OpenFailed → Option FolderModel
    → Option FolderModel →
    Type 0
IsOpenFailure paths path cause old new =
    CannotOpen paths old new × IsFirstMissed paths path old × IsCauseAt old path cause

-- a path that may be given
abbrev pub path_if : Option (List ℕ) → List (List ℕ)
path_if None = []
path_if (Some path) = path ∷ []

-- the file of a path that may be given, and none if no path is given
abbrev pub IsFileIf : Option FolderModel → Option (List ℕ) → Option (Option (List ℕ)) → Type 0
IsFileIf known None found = found ≡ None
IsFileIf known (Some path) found =
    (file : Option (List ℕ)) × (found ≡ Some file) × IsFileOf known path file

-- a read of some file of this kind may have failed
module _ {S : Type 0} where
  abbrev pub MayFail : (S → Bool) → Bool → Type 0
  MayFail has_failed failed = failed ≡ true → (file : S) × (has_failed file ≡ true)

-- ---- keeping

-- all paths except this one contain what they did
abbrev pub KeepsOthers : List ℕ → FolderModel → FolderModel → Type 0
KeepsOthers path k n =
    (n.opened ≡ k.opened) × (n.paths ≡ k.paths)
    × ((other : List ℕ) → other ≢ path → n.at other ≡ k.at other)

-- the file of this path contains this now, or was removed, and nothing else was changed
abbrev pub Becomes : List ℕ → Option (List ℕ) → FolderModel → FolderModel → Type 0
Becomes path file k n =
    KeepsOthers path k n × (n.at path ≡ file) × (n.has_failed ≡ k.has_failed)

-- what the file of this path contains, or nothing if there is no file
abbrev pub held_at : FolderModel → List ℕ → List ℕ
held_at k path = unwrap_or (k.at path) []

-- the file of this path, which no other run has, is there with what it contained, or empty if there
-- was no file, and nothing else was changed
abbrev pub Keeps : List ℕ → FolderModel → FolderModel → Type 0
Keeps path k n =
    Becomes path (Some (held_at k path)) k n
    × (k.paths.is_stream path ≡ false) × (k.paths.is_held path ≡ false)

-- a file that is kept contains what that of this path did, or nothing if there was no file
abbrev pub IsKeptAt : Option FolderModel → List ℕ → Option (List ℕ) → Type 0
IsKeptAt None path contents = ⊤
IsKeptAt (Some k) path contents = contents ≡ Some (held_at k path)

-- the file of this path is not kept: another run has it, the system failed, or no file is there
abbrev pub CannotKeep : List ℕ → KeepFault → FolderModel → FolderModel → Type 0
CannotKeep path Held k n = Stays k n × (k.paths.is_held path ≡ true)
CannotKeep path (NotOpened cause) k n = Fails k n ⊎ (Stays k n × (k.paths.is_stream path ≡ true))

-- the file of this path contains this from now on, if that is known, and nothing else was changed
abbrev pub Leaves : List ℕ → Option (List ℕ) → FolderModel → FolderModel → Type 0
Leaves path contents k n =
    KeepsOthers path k n × (n.has_failed ≡ k.has_failed)
    × IfSome contents (λ bytes. n.at path ≡ Some bytes)

-- ---- saving

-- the file of this path, or the name if there is no file, is locked, and no other run has it
abbrev pub Locks : List ℕ → FolderModel → FolderModel → Type 0
Locks path k n =
    Stays k n × (k.paths.is_stream path ≡ false → k.paths.is_held path ≡ false)

-- the file of this path is not locked: another run has it, or the system failed
abbrev pub CannotLock : List ℕ → KeepFault → FolderModel → FolderModel → Type 0
CannotLock path Held k n = Stays k n × (k.paths.is_held path ≡ true)
CannotLock path (NotOpened cause) k n = Fails k n

-- a path leads to this place
abbrev pub IsPlaceOf : List ℕ → List ℕ → FolderModel → FolderModel → Type 0
IsPlaceOf path place k n = Stays k n × (place ≡ k.paths.place path)

-- nothing was changed, since memory ran out or the system failed
abbrev pub LeavesAll : SaveFault → FolderModel → FolderModel → Type 0
LeavesAll saves.NoMemory k n = Stays k n
LeavesAll (saves.WriteFault cause) k n = Fails k n
LeavesAll saves.NotSynced k n = ⊥
LeavesAll (saves.Changed unfinished) k n = ⊥

-- what is at this path was written in part, at most, since the system failed
abbrev pub Spoils : List ℕ → FolderModel → FolderModel → Type 0
Spoils path k n = KeepsOthers path k n × (n.has_failed ≡ true)

-- a text is at a path beside this place, at which nothing was, and nothing else was changed
abbrev pub WritesBeside : List ℕ → List ℕ → List ℕ → FolderModel → FolderModel → Type 0
WritesBeside place text path k n =
    (path ≢ place) × (k.at path ≡ None) × Becomes path (Some text) k n

-- what the file at this place contains is at another path too, at which nothing was, and nothing
-- else was changed
abbrev pub BacksUp : List ℕ → List ℕ → FolderModel → FolderModel → Type 0
BacksUp place path k n =
    (path ≢ place) × (k.at path ≡ None) × Becomes path (k.at place) k n

-- it was found whether the file of this path contains exactly these bytes, and nothing was changed
abbrev pub Compares : List ℕ → List ℕ → Bool → FolderModel → FolderModel → Type 0
Compares path bytes same k n = Stays k n × ((same ≡ true) ↔ (k.at path ≡ Some bytes))

-- a file was put at another path, and no one else had changed what is there
abbrev pub Moves : List ℕ → List ℕ → FolderModel → FolderModel → Type 0
Moves from to k n =
    (n.opened ≡ k.opened) × (n.paths ≡ k.paths) × (n.has_failed ≡ k.has_failed)
    × (n.at to ≡ k.at from) × (from ≢ to → n.at from ≡ None)
    × ((other : List ℕ) → other ≢ from → other ≢ to → n.at other ≡ k.at other)
    × (k.paths.is_changed to ≡ false)

-- no file was put at this path: someone else had changed what is there, or the system failed
abbrev pub CannotMove : List ℕ → MoveFault → FolderModel → FolderModel → Type 0
CannotMove to moves.Changed k n = Stays k n × (k.paths.is_changed to ≡ true)
CannotMove to moves.Failed k n = Fails k n

-- what is at this place is what was there at first. No one else put another file there, and it
-- contains the bytes that were loaded from it, if these are given
abbrev pub IsUnchanged : List ℕ → Option (List ℕ) → FolderModel → Type 0
IsUnchanged place loaded_bytes k =
    (k.paths.is_changed place ≡ false) × IfSome loaded_bytes (λ bytes. k.at place ≡ Some bytes)

abbrev pub HasChanged : List ℕ → Option (List ℕ) → FolderModel → Type 0
HasChanged place loaded_bytes k =
    (k.paths.is_changed place ≡ true)
    ⊎ ((bytes : List ℕ) × (loaded_bytes ≡ Some bytes) × (k.at place ≢ Some bytes))

-- the text is at this place, and all other paths are as they were. A file that it replaced was what
-- was there at first
abbrev pub SavesAt : List ℕ → Option (List ℕ) → List ℕ → FolderModel → FolderModel → Type 0
SavesAt place loaded_bytes text k n =
    Becomes place (Some text) k n
    × (k.paths.is_stream place ≡ false → IsUnchanged place loaded_bytes k)

-- the text was not saved at this place, by this fault
abbrev pub CannotSaveAt : List ℕ → Option (List ℕ) → List ℕ → SaveFault → FolderModel
    → FolderModel → Type 0
CannotSaveAt place loaded_bytes text saves.NoMemory k n = Stays k n
CannotSaveAt place loaded_bytes text (saves.WriteFault cause) k n =
    KeepsOthers place k n × (n.has_failed ≡ true)
    × (k.paths.is_stream place ≡ false → n.at place ≡ k.at place)
CannotSaveAt place loaded_bytes text saves.NotSynced k n =
    KeepsOthers place k n × (n.at place ≡ Some text) × (n.has_failed ≡ true)
    × (k.paths.is_stream place ≡ false) × IsUnchanged place loaded_bytes k
CannotSaveAt place loaded_bytes text (saves.Changed unfinished) k n =
    HasChanged place loaded_bytes k × (k.paths.is_stream place ≡ false)
    × WritesBeside place text (string_bytes unfinished) k n

-- the text was saved at the place that the path leads to
abbrev pub Saves : List ℕ → Option (List ℕ) → List ℕ → FolderModel → FolderModel → Type 0
Saves path loaded_bytes text k n = SavesAt (k.paths.place path) loaded_bytes text k n

-- the text was not saved at the place that the path leads to, by this fault
abbrev pub CannotSave : List ℕ → Option (List ℕ) → List ℕ → SaveFault → FolderModel → FolderModel
    → Type 0
CannotSave path loaded_bytes text fault k n =
    CannotSaveAt (k.paths.place path) loaded_bytes text fault k n
