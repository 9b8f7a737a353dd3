-- What a command makes of a file's lines, by the rule of the file, and why it makes nothing.
use Rattle.std.specs.Prelude.{◌≡◌, ℕ, List, Option, IfSome, Result, Ok, Err}
use Rattle.osn_lines.specs.Faults.{IsReadFault}
use Rattle.osn_lines.specs.Lines.{lines}
use Rattle.osn_lines.specs.Streams.{Input}
use Rattle.osn_files.specs.Faults.{MatchFileFault}
use Rattle.osn_files.specs.Files.{AcceptsRead}
use Rattle.osn_files.specs.declared.fault.FileFault.{FileFault}
use Rattle.osn_files.specs.declared.fault.LineFault.{LineFault}
use Rattle.osn_files.specs.declared.fault.Role.{Role}

-- what the rule makes of the file, if its bytes are known
abbrev pub Makes : {S : Type 0} → (List (List ℕ) → Result S (ℕ × LineFault)) → Option (List ℕ) → S
    → Type 0
Makes rule bytes s = IfSome bytes (λ input. rule (lines input) ≡ Ok s)

-- why the rule makes nothing of the file of this role: its first fault, by the number of the line.
-- Or a read failed, and the rule refuses no line that had ended. Or memory ran out, and the rule
-- refuses no line that had ended before the last read
abbrev pub IsFileFault : {S : Type 0} → Role → (List (List ℕ) → Result S (ℕ × LineFault)) → Input
    → FileFault → Type 0
IsFileFault role rule file fault =
    MatchFileFault fault (AcceptsRead rule file.bytes file.rest 65536)
    (AcceptsRead rule file.bytes file.rest 0 × IsReadFault file.unread file.bytes)
    (λ named line why.
    (named ≡ role) × IfSome file.bytes (λ input. rule (lines input) ≡ Err (line, why)))
