-- The messages to standard error, and the status of each.
use Rattle.std.specs.Prelude.{◌≡◌, ◌≢◌, ◌⊎◌, ℕ, Bool, List, Option, Some, None, codes}
use Rattle.std.specs.declared.io.ErrorKind.{ErrorKind}
use Rattle.std.specs.declared.io.ErrorKind.TheVariants.{OutOfMemory}
use Rattle.std.specs.Io.KnownBytes.{Appends}
use Rattle.osn_lines.specs.Faults.{WriteFails}
use Rattle.osn_lines.specs.Streams.{Output}
use Rattle.osn_report.specs.Fault.{fault_status, fault_line}
use Rattle.osn_report.specs.Misuse.{misuse_line}
use Rattle.osn_report.specs.declared.fault.CommandFault.{CommandFault}
use Rattle.osn_report.specs.declared.fault.CommandFault.TheVariants.{NoMemory, NotOpened}
use Rattle.osn_report.specs.Explanation.{explanation}
use Rattle.osn_report.specs.OpenFailure.{open_failure_line}
use Rattle.osn_report.specs.declared.misuse.Misuse.{Misuse}
use Rattle.osn_report.specs.declared.status.Status.{Status}
use Rattle.osn_report.specs.declared.status.Status.TheVariants.{Done, Refused, Misused}
use Rattle.osn_report.specs.declared.status.Status.TheVariants as statuses

-- the line was written whole, or the sink failed or took it in too many writes
abbrev pub WritesLine : Output → List ℕ → Type 0
WritesLine e line = Appends e.old e.new line ⊎ WriteFails e.unwritten_before e.unwritten line

-- a line was written, with the status that belongs to it
abbrev pub ReportsLine : Output → Status → List ℕ → Status → Type 0
ReportsLine e given line status = (status ≡ given) × WritesLine e line

-- this fault was reported on standard error, and this is its status
abbrev pub EndsBy : Output → CommandFault → Status → Type 0
EndsBy e fault status = ReportsLine e (fault_status fault) (fault_line fault) status

-- a line that takes memory was written, or it was reported that there was no memory for it
abbrev pub ReportsIfMade : Output → Status → List ℕ → Status → Type 0
ReportsIfMade e given line status = ReportsLine e given line status ⊎ EndsBy e NoMemory status

-- it was reported why a command ended early: by the line of this fault, or, for a refusal, whose
-- line takes memory, that there was no memory for the line
abbrev pub Reports : Output → CommandFault → Status → Type 0
Reports e fault status =
    EndsBy e fault status ⊎ ((fault_status fault ≡ Refused) × EndsBy e NoMemory status)

-- nothing was written to standard error
abbrev pub ReportsNothing : Output → Type 0
ReportsNothing e = (e.new ≡ e.old) × (e.unwritten ≡ e.unwritten_before)

-- ---- what was written in two parts

-- the first of two parts of what was written, and the second
abbrev pub first_output : Output → Option (List ℕ) → Bool → Bool → Output
first_output e between failed held = record {
  old = e.old;
  new = between;
  unwritten_before = e.unwritten_before;
  unwritten = failed;
  holds_back = held;
}

abbrev pub later_output : Output → Option (List ℕ) → Bool → Output
later_output e between failed = record {
  old = between;
  new = e.new;
  unwritten_before = failed;
  unwritten = e.unwritten;
  holds_back = e.holds_back;
}

-- a text was written, if there is one and there was memory for it
abbrev pub ReportsMore : Output → Option (List ℕ) → Type 0
ReportsMore e None = ReportsNothing e
ReportsMore e (Some text) = WritesLine e text ⊎ ReportsNothing e

-- This fault of the file of a path was reported, and then what explains it.
pub record ReportsExplanation (path : List ℕ) (e : Output) (fault : CommandFault) (status : Status)
    : Type 0 where
  pub between : Option (List ℕ)
  pub failed : Bool
  pub held_back : Bool
  pub reports : Reports (first_output e between failed held_back) fault status
  pub explains : ReportsMore (later_output e between failed) (explanation path fault)

-- a fault of the file of a path was reported, and then what explains it. For a file that could not
-- be opened, this is its path and why, in one line
abbrev pub ReportsAt : List ℕ → Output → CommandFault → Status → Type 0
ReportsAt path e (NotOpened cause) status =
    ReportsIfMade e statuses.ReadFault (open_failure_line path cause) status
ReportsAt path e fault status = ReportsExplanation path e fault status

-- ---- how a command ended

-- a command ended by this fault, which was reported, or did all its work and wrote nothing
abbrev pub Ends : Output → Option CommandFault → Status → Type 0
Ends e None status = (status ≡ Done) × ReportsNothing e
Ends e (Some fault) status = Reports e fault status

-- it was reported what the place of an argument asks for, with the argument as it was typed
abbrev pub ReportsMisuse : Output → Misuse → List ℕ → Status → Type 0
ReportsMisuse e misuse argument status = ReportsIfMade e Misused (misuse_line misuse argument)
    status

-- it was reported why the arguments could not be read, by the kind of error
abbrev pub ReportsNoWords : Output → ErrorKind → Status → Type 0
ReportsNoWords e kind status =
    ((kind ≡ OutOfMemory) × EndsBy e NoMemory status)
    ⊎ ((kind ≢ OutOfMemory)
    × ReportsLine e Misused (codes "error: an argument is not UTF-8\n") status)
