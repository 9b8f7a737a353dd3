-- The faults of a file's line by number and name, and what holds if a file gave nothing, by the
-- reason.
use Rattle.std.specs.Prelude.{◌≡◌, ℕ, Bool, List, Option}
use Rattle.osn_lines.specs.Faults.{IsReadFault}
use Rattle.osn_register.specs.Refusal.{refusal_number, refusal_name}
use Rattle.osn_request.specs.WireFault.{wire_fault_number, wire_fault_name}
use Rattle.osn_files.specs.declared.fault.LineFault.{LineFault}
use Rattle.osn_files.specs.declared.fault.LineFault.TheVariants.{Wire, Register}
use Rattle.osn_files.specs.declared.fault.Role.{Role}
use Rattle.osn_files.specs.declared.fault.FileFault.{FileFault}
use Rattle.osn_files.specs.declared.fault.FileFault.TheVariants.{NoMemory, ReadFault, BadLine}

abbrev pub line_fault_number : LineFault → ℕ
line_fault_number (Wire f) = wire_fault_number f
line_fault_number (Register f) = refusal_number f

abbrev pub line_fault_name : LineFault → List ℕ
line_fault_name (Wire f) = wire_fault_name f
line_fault_name (Register f) = refusal_name f

-- a fact for each reason, that of a line being of the file's role, the line's number and its fault
abbrev pub MatchFileFault : FileFault → Type 0 → Type 0 → (Role → ℕ → LineFault → Type 0) → Type 0
MatchFileFault NoMemory P Q R = P
MatchFileFault ReadFault P Q R = Q
MatchFileFault (BadLine role line fault) P Q R = R role line fault

-- after a read fault the source failed, or gives no end in 4,294,967,295 reads; otherwise it is as
-- it was
abbrev pub FailsByFault : Bool → Bool → Option (List ℕ) → FileFault → Type 0
FailsByFault old new input fault =
    MatchFileFault fault (new ≡ old) (IsReadFault new input) (λ _ _ _. new ≡ old)
