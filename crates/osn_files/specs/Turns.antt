-- What lines make of a value, one after another, up to the first that has a fault. This project's
-- profile.
use Rattle.std.specs.Prelude.{ℕ, ◌+◌, List, [], ◌∷◌, Option, Some, None, Result, Ok, Err}
use Rattle.serde_json.specs.Data.{Data}
use Rattle.osn_request.specs.declared.wire_fault.WireFault.{WireFault}
use Rattle.osn_request.specs.declared.wire_fault.WireFault.TheVariants.{BadHead}
use Rattle.osn_request.specs.Request.{object_of}
use Rattle.osn_request.specs.declared.version.Version.{Version}
use Rattle.osn_files.specs.declared.fault.LineFault.{LineFault}
use Rattle.osn_files.specs.declared.fault.LineFault.TheVariants.{Wire}
use Rattle.osn_files.specs.Version.{version_of}

-- the value that is made of a reading's result, unless that is a fault
abbrev pub on_read : {A S : Type 0} → Result A WireFault → (A → Result S LineFault)
    → Result S LineFault
on_read (Ok x) make = make x
on_read (Err f) make = Err (Wire f)

-- what comes next, unless the line of this number has a fault
abbrev pub go_on : {S T : Type 0} → ℕ → Result S LineFault → (S → Result T (ℕ × LineFault))
    → Result T (ℕ × LineFault)
go_on n (Ok t) next = next t
go_on n (Err f) next = Err (n, f)

-- What lines make of a value, each by its object and by the rules of a version, or the first fault
-- and the number of its line. The first line has this number. If no version is known, the first
-- line is a head that says it, and without a line, line 1 has a fault.
abbrev pub in_turn : {S : Type 0} → (Version → S → Data → Result S LineFault) → ℕ
    → Option Version → S → List (List ℕ) → Result S (ℕ × LineFault)
in_turn step n None s [] = Err (1, Wire BadHead)
in_turn step n None s (head ∷ rest) =
    go_on n (on_read (version_of head) Ok)
    (λ version. in_turn step (n + 1) (Some version) s rest)
in_turn step n (Some version) s [] = Ok s
in_turn step n (Some version) s (line ∷ rest) =
    go_on n (on_read (object_of line) (step version s))
    (λ t. in_turn step (n + 1) (Some version) t rest)
