-- What was done in a folder by a command that reads its files.
use Rattle.std.specs.Prelude.{Bool, List, [], ◌∷◌, ℕ, Option}
use Rattle.osn_folder.specs.Folder.{FolderModel, Changes, IsFileOf, Opens}
use Rattle.osn_lines.specs.Streams.{Input}

-- what is known of the folder before and after
pub record Folders : Type 0 where
  pub before : Option FolderModel
  pub after : Option FolderModel

-- what is known of a folder before and after, by its ghost
abbrev pub folders_of : {D : Type 0} → (D → Option FolderModel) → D → D → Folders
folders_of known old new = record { before = known old; after = known new }

-- a file of this path gave the bytes that were read, and a read of it failed only if one of its
-- kind can
abbrev pub IsReadOf : Folders → List ℕ → (Bool → Type 0) → Input → Type 0
IsReadOf d path CanFail file = IsFileOf d.before path file.bytes × CanFail file.unread

-- one file was opened, and this was done with what it gave
abbrev pub ReadsOne : List ℕ → (Bool → Type 0) → Folders → (Input → Type 0) → Type 0
ReadsOne path CanFail d Does =
    Changes (Opens (path ∷ [])) d.before d.after
    × (file : Input) × IsReadOf d path CanFail file × Does file

-- two files were opened, in this order, and this was done with what they gave
abbrev pub ReadsTwo : List ℕ → List ℕ → (Bool → Type 0) → Folders → (Input → Input → Type 0)
    → Type 0
ReadsTwo first second CanFail d Does =
    Changes (Opens (first ∷ second ∷ [])) d.before d.after
    × (file : Input) × IsReadOf d first CanFail file
    × (other : Input) × IsReadOf d second CanFail other × Does file other
