-- What a command makes of a file is what the file's reader says.
use Rattle.std.proofs.Common.{ℕ, Bool, List, Option, Result, Err}
use Rattle.osn_files.specs.Files.{ReadsFile}
use Rattle.osn_files.specs.declared.fault.FileFault.{FileFault}
use Rattle.osn_files.specs.declared.fault.FileFault.TheVariants as file_faults
use Rattle.osn_files.specs.declared.fault.LineFault.{LineFault}
use Rattle.osn_files.specs.declared.fault.Role.{Role}
use Rattle.osn_lines.specs.Streams.{input_of}
use Rattle.osn_report.specs.Files.{IsFileFault}

-- the fault of a file
pub file_fault : {A T S : Type 0} {role : Role} {rule : List (List ℕ) → Result A (ℕ × LineFault)}
    {view : T → A} {remaining : S → Option (List ℕ)} {has_failed : S → Bool} {old new : S}
    (fault : FileFault)
    → ReadsFile role rule view (Err fault) remaining has_failed old new
    → IsFileFault role rule (input_of remaining has_failed old new) fault
file_fault file_faults.NoMemory h = h.fault
file_fault file_faults.ReadFault h = (h.fault, h.reason)
file_fault (file_faults.BadLine named line why) h = h.fault
