-- A file that is being read, as what takes lines.
use Rattle.std.specs.Prelude.{◌≡◌, ◌+◌, ◌<◌, ℕ, List, [], ◌∷◌, ◌++◌, length, Option, Some, None}
use Rattle.std.specs.Prelude.{Result, Ok, Err, IfErr}
use Rattle.serde_json.specs.Data.{Data}
use Rattle.osn_request.specs.declared.wire_fault.WireFault.TheVariants.{BadHead}
use Rattle.osn_request.specs.Field.{or_fault}
use Rattle.osn_request.specs.declared.version.Version.{Version}
use Rattle.osn_files.specs.declared.fault.LineFault.{LineFault}
use Rattle.osn_files.specs.declared.reading.Reading.{Reading}
use Rattle.osn_files.specs.declared.stop.LineStop.{LineStop}
use Rattle.osn_files.specs.declared.stop.LineStop.TheVariants.{NoMemory, Fault}
use Rattle.osn_files.specs.LoadedText.{IsOfVersion}
use Rattle.osn_files.specs.Turns.{on_read, in_turn}
use Rattle.osn_files.specs.Version.{version_in}

abbrev pub with_version : {A : Type 0} → Version → Result A LineFault
    → Result (Option Version × A) LineFault
with_version version (Ok a) = Ok (Some version, a)
with_version version (Err f) = Err f

-- the version that is known, and the value that is made, by the object of one line
abbrev pub after_line : {A : Type 0} → (Version → A → Data → Result A LineFault) → Option Version
    → A → Data → Result (Option Version × A) LineFault
after_line step None a d =
    on_read (or_fault BadHead (version_in d)) (λ version. Ok (Some version, a))
after_line step (Some version) a d = with_version version (step version a d)

-- what these lines give for the file, if the first has this number
abbrev pub goes_on : {S A : Type 0} → (S → Version → A → Data → Result A LineFault) → (S → A)
    → Reading S → ℕ → List (List ℕ) → Result A (ℕ × LineFault)
goes_on step state r n lines = in_turn (step r.fold) n r.version (state r.fold) lines

-- the version is unknown without a line, and otherwise the one that the first line says
abbrev pub IsKnownOf : List (List ℕ) → Option Version → Type 0
IsKnownOf lines None = lines ≡ []
IsKnownOf lines (Some version) = IsOfVersion version lines

-- a version that is known stays
abbrev pub StaysKnown : Option Version → Option Version → Type 0
StaysKnown None now = Unit {0}
StaysKnown (Some version) now = now ≡ Some version

-- the reading that was begun is this one, once it took these lines: both give the same for any
-- lines after them. A version that was unknown is that of the lines, and a known one stays
abbrev pub Reads : {S A : Type 0} → (S → Version → A → Data → Result A LineFault) → (S → A)
    → Reading S → List (List ℕ) → Reading S → Type 0
Reads step state initial lines now =
    ((more : List (List ℕ))
    → goes_on step state initial 1 (lines ++ more) ≡ goes_on step state now (length lines + 1) more)
    × (initial.version ≡ None → IsKnownOf lines now.version)
    × StaysKnown initial.version now.version

-- the reading that was begun took these lines and found a fault at the next, whatever follows it
abbrev pub Faults : {S A : Type 0} → (S → Version → A → Data → Result A LineFault) → (S → A)
    → Reading S → List (List ℕ) → Option (List ℕ) → LineFault → Type 0
Faults step state initial lines None f = ⊥
Faults step state initial lines (Some line) f =
    (more : List (List ℕ))
    → goes_on step state initial 1 (lines ++ line ∷ more) ≡ Err (length lines + 1, f)

-- the reading that was begun has no fault in these lines, whatever follows them
abbrev pub Spares : {S A : Type 0} → (S → Version → A → Data → Result A LineFault) → (S → A)
    → Reading S → List (List ℕ) → Type 0
Spares step state initial lines =
    (more : List (List ℕ))
    → IfErr (goes_on step state initial 1 (lines ++ more)) (λ e. length lines < e.0)

-- if memory ran out the lines that were taken have no fault. A fault is that of the next
abbrev pub StopsReading : {S A : Type 0} → (S → Version → A → Data → Result A LineFault)
    → (S → A) → Reading S → List (List ℕ) → Option (List ℕ) → LineStop → Type 0
StopsReading step state initial lines at NoMemory = Spares step state initial lines
StopsReading step state initial lines at (Fault f) = Faults step state initial lines at f
