-- What the steps of a save say.
use Rattle.std.specs.Prelude.{◌≡◌, ℕ, true, List, Option, Some, IfSome}
use Rattle.std.specs.Prelude.{string_bytes}
use Rattle.osn_folder.specs.Folder.{FolderModel, Stays, Fails, KeepsOthers, Becomes, WritesBeside}
use Rattle.osn_folder.specs.Folder.{Moves, IsUnchanged, HasChanged}
use Rattle.osn_folder.specs.declared.fault.MoveFault.{MoveFault}
use Rattle.osn_folder.specs.declared.fault.MoveFault.TheVariants as moves
use Rattle.osn_folder.specs.declared.fault.SaveFault.{SaveFault}
use Rattle.osn_folder.specs.declared.fault.SaveFault.TheVariants as saves

-- the file of this path contains the bytes that were loaded from it, if these are given
abbrev pub HoldsLoaded : List ℕ → Option (List ℕ) → FolderModel → FolderModel → Type 0
HoldsLoaded place loaded_bytes k n = Stays k n
    × IfSome loaded_bytes (λ bytes. k.at place ≡ Some bytes)

-- a file was put at this place, which was as it was at first
abbrev pub MovesLoaded : List ℕ → List ℕ → Option (List ℕ) → FolderModel → FolderModel → Type 0
MovesLoaded from place loaded_bytes k n = Moves from place k n × IsUnchanged place loaded_bytes k

-- no file was put at this place, by this fault
abbrev pub CannotMoveLoaded : List ℕ → Option (List ℕ) → MoveFault → FolderModel → FolderModel
    → Type 0
CannotMoveLoaded place loaded_bytes moves.Changed k n = Stays k n × HasChanged place loaded_bytes k
CannotMoveLoaded place loaded_bytes moves.Failed k n = Fails k n

-- the text is in a file at this place, which was as it was at first
abbrev pub ReplacesAt : List ℕ → Option (List ℕ) → List ℕ → FolderModel → FolderModel → Type 0
ReplacesAt place loaded_bytes text k n =
    Becomes place (Some text) k n × IsUnchanged place loaded_bytes k

-- it isn't sure that the text is in a file at this place, by this fault
abbrev pub CannotReplaceAt : List ℕ → Option (List ℕ) → List ℕ → SaveFault → FolderModel
    → FolderModel
    → Type 0
CannotReplaceAt place loaded_bytes text saves.NoMemory k n = Stays k n
CannotReplaceAt place loaded_bytes text (saves.WriteFault cause) k n =
    KeepsOthers place k n × (n.has_failed ≡ true) × (n.at place ≡ k.at place)
CannotReplaceAt place loaded_bytes text saves.NotSynced k n =
    KeepsOthers place k n × (n.at place ≡ Some text) × (n.has_failed ≡ true)
    × IsUnchanged place loaded_bytes k
CannotReplaceAt place loaded_bytes text (saves.Changed unfinished) k n =
    HasChanged place loaded_bytes k × WritesBeside place text (string_bytes unfinished) k n
