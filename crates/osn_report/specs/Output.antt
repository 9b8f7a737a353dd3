-- Why a write of standard output failed, and how that is reported. This project's profile.
use Rattle.std.specs.Prelude.{◌≡◌, Option, Some, None, codes, unwrap_or}
use Rattle.std.specs.declared.io.ErrorKind.{ErrorKind}
use Rattle.std.specs.declared.io.ErrorKind.TheVariants.{BrokenPipe, StorageFull, QuotaExceeded}
use Rattle.osn_lines.specs.Streams as streams
use Rattle.osn_report.specs.Messages.{ReportsLine, ReportsNothing}
use Rattle.osn_report.specs.declared.output.StandardOutput.{StandardOutput}
use Rattle.osn_report.specs.declared.output.WriteCause.{WriteCause}
use Rattle.osn_report.specs.declared.output.WriteCause.TheVariants.{Closed, NoSpace, Other}
use Rattle.osn_report.specs.declared.status.Status.{Status}
use Rattle.osn_report.specs.declared.status.Status.TheVariants as statuses

-- the writer inside a standard output
abbrev pub inner_of : {T : Type 0} → StandardOutput T → T
inner_of p = p.inner

-- why the last call of a standard output that failed did so
abbrev pub cause_of : {T : Type 0} → StandardOutput T → Option WriteCause
cause_of p = p.cause

-- the cause of a failed write, by the kind of its error
abbrev pub cause_of_kind : ErrorKind → WriteCause
cause_of_kind BrokenPipe = Closed
cause_of_kind StorageFull = NoSpace
cause_of_kind QuotaExceeded = NoSpace
cause_of_kind kind = Other

-- a text could not be printed: it was reported why, unless the other end of the pipe is closed
abbrev pub EndsUnwritten : WriteCause → streams.Output → Status → Type 0
EndsUnwritten Closed e status = (status ≡ statuses.Done) × ReportsNothing e
EndsUnwritten NoSpace e status = ReportsLine e statuses.WriteFault
    (codes "oldstyle: standard output: no space left on the device\n") status
EndsUnwritten Other e status = ReportsLine e statuses.WriteFault
    (codes "oldstyle: standard output: write fault\n") status

-- the cause of a write fault that was reported before, if it is known
abbrev pub NotesCause : Option WriteCause → streams.Output → Status → Type 0
NotesCause (Some Closed) e status = ReportsLine e statuses.WriteFault
    (codes "note: standard output: nobody reads it any more\n") status
NotesCause (Some NoSpace) e status = ReportsLine e statuses.WriteFault
    (codes "note: standard output: no space left on the device\n") status
NotesCause (Some Other) e status = (status ≡ statuses.WriteFault) × ReportsNothing e
NotesCause None e status = (status ≡ statuses.WriteFault) × ReportsNothing e

-- how a command with this status ends, given why standard output failed, if it did
abbrev pub EndsOutput : Status → Option WriteCause → streams.Output → Status → Type 0
EndsOutput statuses.Unwritten cause e status = EndsUnwritten (unwrap_or cause Other) e status
EndsOutput statuses.WriteFault cause e status = NotesCause cause e status
EndsOutput given cause e status = (status ≡ given) × ReportsNothing e
