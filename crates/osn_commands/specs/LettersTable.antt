-- What the command `letters` has done with the file of its table, or with standard input.
use Rattle.std.specs.Prelude.{◌⊎◌, Bool, ℕ, List, [], ◌∷◌, Option, Some, None, codes}
use Rattle.std.specs.Prelude.{if◌then◌else◌}
use Rattle.std.specs.Str.{bytes_eq}
use Rattle.osn_folder.specs.Folder.{Changes, FolderModel, Opens}
use Rattle.osn_invocation.specs.Invocation.{LettersModel}
use Rattle.osn_lines.specs.Streams.{Input, Output}
use Rattle.osn_page_commands.specs.LettersFiles.{RunsLetters}
use Rattle.osn_register.specs.declared.limits.Limits.{Limits}
use Rattle.osn_report.specs.Folders.{Folders, IsReadOf}
use Rattle.osn_report.specs.declared.status.Status.{Status}
use Rattle.osn_commands.specs.InFolder.{MissesText}

-- the file of a table that is named, unless it is `-`, standard input
abbrev pub file_in : List ℕ → Option (List ℕ)
file_in path = if bytes_eq path (codes "-") then None else Some path

abbrev pub file_of : Option (List ℕ) → Option (List ℕ)
file_of None = None
file_of (Some path) = file_in path

-- how the letters of an opened table are read: the journal could not be opened, which was reported,
-- and nothing was written; or the letters of the table were read
abbrev pub ReadsOpened : Limits → List ℕ → LettersModel → (Bool → Type 0) → Folders → Input → Output
    → Output → Status → Type 0
ReadsOpened limits journal options CanFail d table o e status =
    MissesText journal d o e status
    ⊎ RunsLetters limits journal options CanFail d table o e status

-- the file of the table could not be opened, which was reported, and nothing was written; or it was
-- opened, and the letters of its table were read
abbrev pub ReadsFile : Limits → List ℕ → List ℕ → LettersModel → (Bool → Type 0) → Folders → Output
    → Output → Status → Type 0
ReadsFile limits journal path options CanFail d o e status =
    MissesText path d o e status
    ⊎ ((opened : Option FolderModel) × Changes (Opens (path ∷ [])) d.before opened
    × (table : Input) × IsReadOf d path CanFail table
    × ReadsOpened limits journal options CanFail (record { before = opened; after = d.after })
    table o e status)

-- the letters of a file, or without one those of standard input
abbrev pub ReadsTable : Option (List ℕ) → Limits → List ℕ → LettersModel → (Bool → Type 0) → Folders
    → Input → Output → Output → Status → Type 0
ReadsTable None limits journal options CanFail d i o e status =
    RunsLetters limits journal options CanFail d i o e status
ReadsTable (Some path) limits journal options CanFail d i o e status =
    ReadsFile limits journal path options CanFail d o e status

-- how the letters of a table are read, which may be a named file or standard input
abbrev pub RunsTable : Limits → List ℕ → Option (List ℕ) → LettersModel → (Bool → Type 0) → Folders
    → Input → Output → Output → Status → Type 0
RunsTable limits journal table options CanFail d i o e status =
    ReadsTable (file_of table) limits journal options CanFail d i o e status
