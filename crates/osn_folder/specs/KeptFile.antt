-- The fault that a kept file has noted after a change.
use Rattle.std.specs.Prelude.{Option, Some, Result, Ok, Err}
use Rattle.osn_folder.specs.declared.fault.KeptFileFault.{KeptFileFault}

-- the fault of a file after another change: that of the change, if it failed
abbrev pub fault_after : {A : Type 0} → Result A KeptFileFault → Option KeptFileFault
    → Option KeptFileFault
fault_after (Ok _) fault = fault
fault_after (Err why) fault = Some why
