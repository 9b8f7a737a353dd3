-- Why a command ended early at a file, and which file that is.
use Rattle.std.specs.Prelude.{◌≡◌, ◌⊎◌, ℕ, Bool, true, false, List, [], ◌∷◌, if◌then◌else◌}
use Rattle.osn_files.specs.declared.fault.FileFault.{FileFault}
use Rattle.osn_files.specs.declared.fault.FileFault.TheVariants as file_faults
use Rattle.osn_files.specs.declared.fault.Role.{Role}
use Rattle.osn_files.specs.declared.fault.Role.TheVariants.{Questions, Transcript}
use Rattle.osn_folder.specs.Folder.{IsOpenFailure}
use Rattle.osn_folder.specs.declared.fault.OpenFailed.{OpenFailed}
use Rattle.osn_lines.specs.Streams.{Input}
use Rattle.osn_report.specs.Folders.{Folders, ReadsOne, ReadsTwo}
use Rattle.osn_report.specs.declared.fault.CommandFault.{CommandFault}
use Rattle.osn_report.specs.declared.fault.CommandFault.TheVariants.{File, ReadFault}

-- a file of this role is the second that a command reads
abbrev pub is_second : Role → Bool
is_second Questions = true
is_second Transcript = true
is_second role = false

-- a fault of two files is one of the second: a line of it is bad, or a read of it failed
abbrev pub is_at_second : FileFault → Bool → Bool
is_at_second file_faults.NoMemory unread = false
is_at_second file_faults.ReadFault unread = unread
is_at_second (file_faults.BadLine role line why) unread = is_second role

-- the path of the file at which a command of two files ended by a fault
abbrev pub path_of_two : CommandFault → List ℕ → List ℕ → Bool → List ℕ
path_of_two (File why) first second unread = if is_at_second why unread then second else first
path_of_two fault first second unread = first

-- the file of this path could not be opened. It is the first of these paths that has no file
abbrev pub IsNotRead : List (List ℕ) → Folders → List ℕ → CommandFault → Type 0
IsNotRead paths d path fault =
    (cause : OpenFailed) × (fault ≡ ReadFault cause)
    × IsOpenFailure paths path cause d.before d.after

-- a command of one file ended early: the file could not be opened; or it was opened, and this fault
-- says why
abbrev pub FailsOnOne : List ℕ → (Bool → Type 0) → Folders → (Input → CommandFault → Type 0)
    → List ℕ → CommandFault → Type 0
FailsOnOne first CanFail d Why path fault =
    IsNotRead (first ∷ []) d path fault
    ⊎ ((path ≡ first) × ReadsOne first CanFail d (λ file. Why file fault))

-- a command of two files ended early: one of them could not be opened; or both were opened, and
-- this fault says why
abbrev pub FailsOnTwo : List ℕ → List ℕ → (Bool → Type 0) → Folders
    → (Input → Input → CommandFault → Type 0) → List ℕ → CommandFault → Type 0
FailsOnTwo first second CanFail d Why path fault =
    IsNotRead (first ∷ second ∷ []) d path fault
    ⊎ ReadsTwo first second CanFail d (λ file other.
    (path ≡ path_of_two fault first second other.unread) × Why file other fault)
