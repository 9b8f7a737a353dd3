use Rattle.std.proofs.Common.{◌≡◌, ◌++◌, take, string_bytes}
use Rattle.std.specs.List.{flat_map}
use Rattle.osn_commands.specs.CheckFaults.{fault_lines}
use Rattle.osn_commands.proofs.check_faults.push_faults.Given as goal

-- the faults so far
abbrev pub invariant-loop-fault : goal.invariant-loop-fault
invariant-loop-fault l =
    string_bytes l.lines ≡ string_bytes l.initial.lines
    ++ flat_map (fault_lines l.path l.text) (take l.fault-index l.faults)
