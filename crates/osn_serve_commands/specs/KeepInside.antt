-- What the parts of a service that keeps a file have done.
use Rattle.std.specs.Prelude.{◌≡◌, ℕ, Bool, List, ◌++◌, take, Option, Some, IfSome}
use Rattle.osn_register.specs.declared.limits.Limits.{Limits}
use Rattle.osn_core.specs.Sequential.{ObjectState}
use Rattle.osn_request.specs.declared.version.Version.{Version}
use Rattle.osn_files.specs.CountedPrefix.{IsCountedPrefix, whole_bytes}
use Rattle.osn_files.specs.declared.whole_lines.CountedPrefix.{CountedPrefix}
use Rattle.osn_report.specs.declared.fault.CommandFault.{CommandFault}
use Rattle.osn_serve_commands.specs.Keep.{kept_text, missing_text, unfinished_line}
use Rattle.osn_serve_commands.specs.Keep.{HoldsObject, HoldsNoObject, IsLeft}

-- these bytes were read of a file, if it is known what it gave
abbrev pub AreReadOf : Option (List ℕ) → List ℕ → Type 0
AreReadOf input bytes = IfSome input (λ content. bytes ≡ content)

-- this part of the bytes counts, and makes this object, in a journal of this version
abbrev pub IsHeldIn : Limits → List ℕ → CountedPrefix → Version → ObjectState → Type 0
IsHeldIn limits bytes part version s =
    IsCountedPrefix part bytes × HoldsObject limits bytes version s

-- the file makes no object, and a read of it failed or not
abbrev pub IsUnreadKept : Limits → Option (List ℕ) → Bool → CommandFault → Type 0
IsUnreadKept limits input failed fault =
    IfSome input (λ content. HoldsNoObject limits content failed fault)

-- the last line was cut off, if it was not finished
abbrev pub IsCut : CountedPrefix → Option ℕ → Option (List ℕ) → Option (List ℕ) → Type 0
IsCut part cut old new =
    (content : List ℕ) → old ≡ Some content → IsCountedPrefix part content
    → (cut ≡ unfinished_line content) × (new ≡ Some (whole_bytes content))

-- the missing text was appended, and all is on the disk
abbrev pub IsCompleted : CountedPrefix → Option (List ℕ) → Option (List ℕ) → Option (List ℕ) →
    Type 0
IsCompleted part old new synced =
    (content : List ℕ) → old ≡ Some (whole_bytes content) → IsCountedPrefix part content
    → (new ≡ Some (kept_text content)) × (synced ≡ Some (kept_text content))

-- a prefix of the missing text was appended
abbrev pub IsCompletedInPart : CountedPrefix → Option (List ℕ) → Option (List ℕ) → Type 0
IsCompletedInPart part old new =
    (content : List ℕ) → old ≡ Some (whole_bytes content) → IsCountedPrefix part content
    → (n : ℕ) × (new ≡ Some (whole_bytes content ++ take n (missing_text content)))

-- the file is ready for the service
abbrev pub IsReady : CountedPrefix → Option ℕ → Option (List ℕ) → Option (List ℕ) → Option (List ℕ)
    → Type 0
IsReady part cut old new synced =
    (content : List ℕ) → old ≡ Some content → IsCountedPrefix part content
    → (cut ≡ unfinished_line content) × (new ≡ Some (kept_text content))
    × (synced ≡ Some (kept_text content))

-- it could not be made ready
abbrev pub IsUnready : CountedPrefix → Option ℕ → Option (List ℕ) → Option (List ℕ) → Type 0
IsUnready part cut old new =
    (content : List ℕ) → old ≡ Some content → IsCountedPrefix part content → IsLeft content cut new
