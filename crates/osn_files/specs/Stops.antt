-- What a line's stop says, and the fault of a file whose lines ended early.
use Rattle.std.specs.Prelude.{◌≡◌, ◌+◌, ℕ, Result, Err}
use Rattle.osn_lines.specs.declared.fault.TakeFault.{TakeFault}
use Rattle.osn_lines.specs.declared.fault.TakeFault.TheVariants as ends
use Rattle.osn_request.specs.declared.request.RequestError.{RequestError}
use Rattle.osn_request.specs.declared.request.RequestError.TheVariants as errors
use Rattle.osn_files.specs.declared.fault.FileFault.{FileFault}
use Rattle.osn_files.specs.declared.fault.FileFault.TheVariants as faults
use Rattle.osn_files.specs.declared.fault.LineFault.{LineFault}
use Rattle.osn_files.specs.declared.fault.LineFault.TheVariants.{Wire}
use Rattle.osn_files.specs.declared.fault.Role.{Role}
use Rattle.osn_files.specs.declared.stop.LineStop.{LineStop}
use Rattle.osn_files.specs.declared.stop.LineStop.TheVariants.{NoMemory, Fault}

abbrev pub stop_of : RequestError → LineStop
stop_of errors.NoMemory = NoMemory
stop_of (errors.Fault f) = Fault (Wire f)

-- a stop has the given fault; NoMemory says nothing
abbrev pub Stops : {A : Type 0} → Result A LineFault → LineStop → Type 0
Stops said NoMemory = Unit {0}
Stops said (Fault f) = said ≡ Err f

-- the fault of a file of this role that ended early after this many lines
abbrev pub file_fault : Role → ℕ → TakeFault LineStop → FileFault
file_fault role n ends.NoMemory = faults.NoMemory
file_fault role n ends.ReadFault = faults.ReadFault
file_fault role n (ends.Stopped NoMemory) = faults.NoMemory
file_fault role n (ends.Stopped (Fault f)) = faults.BadLine role (n + 1) f
