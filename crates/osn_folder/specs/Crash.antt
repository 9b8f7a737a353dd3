-- What a crash of the machine may leave of a folder. What was synced stays. A name that was changed
-- since may be as it is or as it was.
use Rattle.std.specs.Prelude.{◌≡◌, ◌≢◌, ◌⊎◌, ℕ, true, false, List, [], ◌∷◌, ◌++◌, Option, Some}
use Rattle.std.specs.Prelude.{None}
use Rattle.osn_folder.specs.Folder.{FolderModel, Changes, Saves, CannotSave, Becomes, BacksUp}
use Rattle.osn_folder.specs.Folder.{LeavesAll}
use Rattle.osn_folder.specs.Folder.{SavesAt, CannotSaveAt}
use Rattle.osn_folder.specs.declared.fault.SaveFault.{SaveFault}
use Rattle.osn_folder.specs.declared.fault.SaveFault.TheVariants as saves

-- ---- of calls

-- what a crash may leave at this path is unchanged, and what an earlier crash might have left there
abbrev pub LeavesSafe : List ℕ → FolderModel → FolderModel → Type 0
LeavesSafe path k n =
    (n.may_leave path ≡ k.may_leave path) × (n.might_have_left path ≡ k.might_have_left path)

-- what a crash may leave is unchanged at each path, and what an earlier crash might have left. The
-- files whose bytes are all on the disk are the same ones
abbrev pub LeavesAllSafe : FolderModel → FolderModel → Type 0
LeavesAllSafe k n =
    (n.may_leave ≡ k.may_leave) × (n.might_have_left ≡ k.might_have_left)
    × (n.is_whole ≡ k.is_whole)

-- at each path except this one, what a crash may leave is unchanged, and what an earlier crash
-- might have left
abbrev pub LeavesOthersSafe : List ℕ → FolderModel → FolderModel → Type 0
LeavesOthersSafe path k n = (other : List ℕ) → other ≢ path → LeavesSafe other k n

-- the file of this path has all its bytes on the disk, whatever its name is after a crash, and
-- another place is safe
abbrev pub WritesWhole : List ℕ → List ℕ → FolderModel → FolderModel → Type 0
WritesWhole place path k n = LeavesSafe place k n × (n.is_whole path ≡ true)

-- a file was put at another path. If it was whole, a crash leaves it there, or what it might have
-- left there before
abbrev pub MovesWhole : List ℕ → List ℕ → FolderModel → FolderModel → Type 0
MovesWhole from to k n =
    from ≢ to → k.is_whole from ≡ true
    → (n.is_whole to ≡ true) × (n.may_leave to ≡ k.may_leave to ++ k.at from ∷ [])
    × (n.might_have_left to ≡ k.might_have_left to ++ k.at from ∷ [])

-- the name of the file at this path is on the disk. If the file is whole, a crash leaves it
abbrev pub SyncsName : List ℕ → FolderModel → FolderModel → Type 0
SyncsName path k n =
    (n.might_have_left path ≡ k.might_have_left path)
    × (k.is_whole path ≡ true → n.may_leave path ≡ k.at path ∷ [])

-- a crash leaves at this path what is there
abbrev pub IsSure : List ℕ → FolderModel → Type 0
IsSure path k = k.may_leave path ≡ k.at path ∷ []

-- what a crash was sure to leave at this path is there still, and no crash since left anything else
abbrev pub StaysSure : List ℕ → FolderModel → FolderModel → Type 0
StaysSure path k n =
    IsSure path k → (n.at path ≡ k.at path) × IsSure path n
    × (n.might_have_left path ≡ k.might_have_left path)

-- at each path of a file, what a crash was sure to leave is there still
abbrev pub AllStaySure : FolderModel → FolderModel → Type 0
AllStaySure k n = (other : List ℕ) → k.at other ≢ None → StaysSure other k n

-- at each path of a file except this one, what a crash was sure to leave is there still
abbrev pub OthersStaySure : List ℕ → FolderModel → FolderModel → Type 0
OthersStaySure path k n =
    (other : List ℕ) → other ≢ path → k.at other ≢ None → StaysSure other k n

-- at each path of a file except these two, what a crash was sure to leave is there still
abbrev pub OthersOfTwoStaySure : List ℕ → List ℕ → FolderModel → FolderModel → Type 0
OthersOfTwoStaySure from to k n = (other : List ℕ) → other ≢ from → other ≢ to
    → k.at other ≢ None → StaysSure other k n

-- if there is a file at this path or nothing, what a crash was sure to leave is there still at each
-- other path of a file
abbrev pub OthersOfFileStaySure : List ℕ → FolderModel → FolderModel → Type 0
OthersOfFileStaySure path k n = k.paths.is_stream path ≡ false → OthersStaySure path k n

-- ---- of a save

-- whenever the machine crashed, this place was left with what it might have been left with before
-- the save, or with the text, whole; from now on with the text
abbrev pub LeavesText : List ℕ → List ℕ → FolderModel → FolderModel → Type 0
LeavesText place text k n =
    (n.may_leave place ≡ Some text ∷ [])
    × (n.might_have_left place ≡ k.might_have_left place ++ Some text ∷ [])

abbrev pub IsSafelySavedAt : List ℕ → List ℕ → FolderModel → FolderModel → Type 0
IsSafelySavedAt place text k n =
    k.paths.is_stream place ≡ false → LeavesText place text k n

-- what a crash may leave at this place if the save failed by this fault. It may leave the text only
-- if the text is there and its name is not synced
abbrev pub IsSafelyLeft : List ℕ → List ℕ → SaveFault → FolderModel → FolderModel → Type 0
IsSafelyLeft place text saves.NoMemory k n = LeavesSafe place k n
IsSafelyLeft place text (saves.WriteFault cause) k n = LeavesSafe place k n
IsSafelyLeft place text saves.NotSynced k n =
    (n.may_leave place ≡ k.may_leave place ++ Some text ∷ [])
    × (n.might_have_left place ≡ k.might_have_left place ++ Some text ∷ [])
IsSafelyLeft place text (saves.Changed unfinished) k n = LeavesSafe place k n

abbrev pub IsSafelyLeftAt : List ℕ → List ℕ → SaveFault → FolderModel → FolderModel → Type 0
IsSafelyLeftAt place text fault k n =
    k.paths.is_stream place ≡ false → IsSafelyLeft place text fault k n

-- what a crash may leave at the place that a path leads to, once the text was saved there, or the
-- save failed
abbrev pub IsSafelySaved : List ℕ → List ℕ → FolderModel → FolderModel → Type 0
IsSafelySaved path text k n = IsSafelySavedAt (k.paths.place path) text k n

abbrev pub CannotSafelySave : List ℕ → List ℕ → SaveFault → FolderModel → FolderModel → Type 0
CannotSafelySave path text fault k n = IsSafelyLeftAt (k.paths.place path) text fault k n

-- ---- of a save, whose folder may not be known

-- the text was saved at the place that the path leads to, and a crash leaves what is said here
abbrev pub SavesSafely : List ℕ → Option (List ℕ) → List ℕ → Option FolderModel
    → Option FolderModel → Type 0
SavesSafely path loaded_bytes text old new =
    Changes (Saves path loaded_bytes text) old new × Changes (IsSafelySaved path text) old new

-- the text was not saved, by this fault, and a crash left the old file or the text, whole
abbrev pub CannotSaveSafely : List ℕ → Option (List ℕ) → List ℕ → SaveFault → Option FolderModel
    → Option FolderModel → Type 0
CannotSaveSafely path loaded_bytes text fault old new =
    Changes (CannotSave path loaded_bytes text fault) old new
    × Changes (CannotSafelySave path text fault) old new

-- ---- of a save that keeps the old file too

-- the file at this place is at another path too, and a crash leaves it there. At the place a crash
-- leaves what it might have left before
abbrev pub BacksUpSafely : List ℕ → List ℕ → FolderModel → FolderModel → Type 0
BacksUpSafely place backup k n =
    BacksUp place backup k n × LeavesSafe place k n × IsSure backup n

-- The text was saved at this place, and what was there is at another path. Until a moment a crash
-- left at the place what it might have left before. From that moment on it left the old file, if
-- one was there, at the other path.
pub record SavesBesideAt (place backup text : List ℕ) (k n : FolderModel) : Type 0 where
  pub session_state : FolderModel
  pub backs_up : BacksUpSafely place backup k session_state
  pub saves : SavesAt place None text session_state n
  pub crash : IsSafelySavedAt place text session_state n
  pub stays : k.paths.is_stream place ≡ false → k.at place ≢ None → StaysSure backup session_state n

-- a backup is removed if the text isn't at its place
abbrev pub GivesUp : List ℕ → SaveFault → FolderModel → FolderModel → Type 0
GivesUp backup saves.NotSynced k n = n ≡ k
GivesUp backup saves.NoMemory k n = Becomes backup None k n × LeavesOthersSafe backup k n
GivesUp backup (saves.WriteFault cause) k n =
    Becomes backup None k n × LeavesOthersSafe backup k n
GivesUp backup (saves.Changed unfinished) k n =
    Becomes backup None k n × LeavesOthersSafe backup k n

-- The old file was at another path, and then it isn't sure that the text was saved, by this fault.
pub record LeavesBesideAt (place text : List ℕ) (fault : SaveFault)
    (k n : FolderModel) : Type 0 where
  pub backup : List ℕ
  pub session_state : FolderModel
  pub after : FolderModel
  pub backs_up : BacksUpSafely place backup k session_state
  pub fails : CannotSaveAt place None text fault session_state after
  pub crash : IsSafelyLeftAt place text fault session_state after
  pub stays : k.paths.is_stream place ≡ false → k.at place ≢ None →
      StaysSure backup session_state after
  pub ended : GivesUp backup fault after n

-- it isn't sure that the text was saved. The old file could not be put at another path, and nothing
-- was changed; or it was put there, and the save failed
abbrev pub CannotSaveBesideAt : List ℕ → List ℕ → SaveFault → FolderModel → FolderModel → Type 0
CannotSaveBesideAt place text fault k n =
    (LeavesAll fault k n × LeavesSafe place k n) ⊎ LeavesBesideAt place text fault k n

-- the text was saved at the place that a path leads to, with the old file at another path; or this
-- is not sure
abbrev pub SavesBeside : List ℕ → List ℕ → List ℕ → FolderModel → FolderModel → Type 0
SavesBeside path backup text k n = SavesBesideAt (k.paths.place path) backup text k n

abbrev pub CannotSaveBeside : List ℕ → List ℕ → SaveFault → FolderModel → FolderModel → Type 0
CannotSaveBeside path text fault k n = CannotSaveBesideAt (k.paths.place path) text fault k n
