-- The status with which a command ends by a fault, and the line that is written to standard error.
-- This project's profile.
use Rattle.std.specs.Prelude.{ℕ, List, ◌++◌, codes}
use Rattle.std.specs.Fmt.{decimal}
use Rattle.osn_folder.specs.declared.fault.FollowFault.{FollowFault}
use Rattle.osn_folder.specs.declared.fault.FollowFault.TheVariants as follow_faults
use Rattle.osn_folder.specs.declared.fault.KeepFault.{KeepFault}
use Rattle.osn_folder.specs.declared.fault.KeepFault.TheVariants.{Held, NotOpened}
use Rattle.osn_folder.specs.declared.fault.KeptFileFault.{KeptFileFault}
use Rattle.osn_folder.specs.declared.fault.KeptFileFault.TheVariants.{ChangeFailed, Replaced}
use Rattle.osn_register.specs.Refusal.{refusal_number, refusal_name}
use Rattle.osn_register.specs.declared.refusal.Refusal.{Refusal}
use Rattle.osn_register.specs.declared.refusal.Refusal.TheVariants as refusals
use Rattle.osn_files.specs.Faults.{line_fault_number, line_fault_name}
use Rattle.osn_files.specs.declared.fault.FileFault.{FileFault}
use Rattle.osn_files.specs.declared.fault.FileFault.TheVariants as file_faults
use Rattle.osn_files.specs.declared.fault.LineFault.{LineFault}
use Rattle.osn_files.specs.declared.fault.Role.{Role}
use Rattle.osn_files.specs.declared.fault.Role.TheVariants.{Journal, Script, Questions, Schedule}
use Rattle.osn_files.specs.declared.fault.Role.TheVariants.{Transcript}
use Rattle.osn_request.specs.Version.{version_number}
use Rattle.osn_request.specs.declared.version.Version.{Version}
use Rattle.osn_live.specs.Faults.{desk_fault_number, desk_fault_name}
use Rattle.osn_live.specs.declared.faults.DeskFault.{DeskFault}
use Rattle.osn_live.specs.declared.faults.DeskFault.TheVariants as desk_faults
use Rattle.osn_lines.specs.declared.whole.ReadAllFault.{ReadAllFault}
use Rattle.osn_lines.specs.declared.whole.ReadAllFault.TheVariants as read_faults
use Rattle.osn_service.specs.declared.fault.ServeFault.{ServeFault}
use Rattle.osn_service.specs.declared.fault.ServeFault.TheVariants as serve_faults
use Rattle.osn_report.specs.Hint.{limit_hint, line_hint}
use Rattle.osn_report.specs.declared.fault.CommandFault.{CommandFault}
use Rattle.osn_report.specs.declared.fault.CommandFault.TheVariants as faults
use Rattle.osn_report.specs.declared.status.Status.{Status}
use Rattle.osn_report.specs.declared.status.Status.TheVariants.{Refused, Misused, ReadFault}
use Rattle.osn_report.specs.declared.status.Status.TheVariants.{WriteFault, NoMemory}

-- the fault of a file that must be read whole
abbrev pub by_read : ReadAllFault → CommandFault
by_read read_faults.NoMemory = faults.NoMemory
by_read read_faults.ReadFault = faults.File file_faults.ReadFault

-- ---- the status

abbrev pub file_status : FileFault → Status
file_status file_faults.NoMemory = NoMemory
file_status file_faults.ReadFault = ReadFault
file_status (file_faults.BadLine role line why) = Refused

abbrev pub service_status : ServeFault → Status
service_status serve_faults.NoMemory = NoMemory
service_status serve_faults.ReadFault = ReadFault
service_status serve_faults.WriteFault = WriteFault

abbrev pub refusal_status : Refusal → Status
refusal_status refusals.NoMemory = NoMemory
refusal_status refusal = Refused

abbrev pub desk_status : DeskFault → Status
desk_status desk_faults.NoMemory = NoMemory
desk_status fault = Refused

abbrev pub followed_status : FollowFault → Status
followed_status follow_faults.NoMemory = NoMemory
followed_status (follow_faults.NotRead cause) = ReadFault
followed_status follow_faults.Shorter = Refused
followed_status follow_faults.Replaced = Refused

-- the status with which a command ends by a fault
abbrev pub fault_status : CommandFault → Status
fault_status (faults.File why) = file_status why
fault_status (faults.Service why) = service_status why
fault_status (faults.Refused refusal) = refusal_status refusal
fault_status (faults.Desk why) = desk_status why
fault_status faults.KeptWithOther = Misused
fault_status faults.UpgradeWithoutKeep = Misused
fault_status (faults.Keep why) = ReadFault
fault_status (faults.KeptFile why) = WriteFault
fault_status faults.FollowedWithOther = Misused
fault_status (faults.FollowedFile why) = followed_status why
fault_status (faults.OlderVersion version) = Refused
fault_status (faults.RefusedLine line) = Refused
fault_status (faults.NotOpened cause) = ReadFault
fault_status (faults.ReadFault cause) = ReadFault
fault_status faults.WriteFault = WriteFault
fault_status (faults.NotSaved cause) = WriteFault
fault_status faults.NoMemory = NoMemory

-- ---- the line

abbrev pub role_name : Role → List ℕ
role_name Journal = codes "journal"
role_name Script = codes "script"
role_name Questions = codes "questions"
role_name Schedule = codes "schedule"
role_name Transcript = codes "transcript"

-- a refusal by number and name, and the end of the line
abbrev pub refusal_end : ℕ → List ℕ → List ℕ
refusal_end number name = decimal number ++ (codes " " ++ (name ++ codes "\n"))

-- the line on a refused line of a file
abbrev pub bad_line : Role → ℕ → LineFault → List ℕ
bad_line role line why =
    codes "oldstyle: " ++ (role_name role ++ (codes " line " ++ (decimal line ++ (codes ": "
    ++ refusal_end (line_fault_number why) (line_fault_name why ++ line_hint why)))))

-- the line on a journal of a version that is not kept
abbrev pub older_line : Version → List ℕ
older_line version = codes "oldstyle: a journal of version "
    ++ (decimal (version_number version)
    ++ codes " is not kept: serve --keep with --upgrade saves it as version 4\n")

-- the line on a refused line that the service ended at
abbrev pub refused_line : ℕ → List ℕ
refused_line line = codes "oldstyle: line "
    ++ (decimal line ++ codes " is refused, and no line after it was answered\n")

abbrev pub read_line : List ℕ
read_line = codes "oldstyle: read fault\n"

abbrev pub write_line : List ℕ
write_line = codes "oldstyle: write fault\n"

abbrev pub memory_line : List ℕ
memory_line = codes "oldstyle: no memory\n"

abbrev pub file_line : FileFault → List ℕ
file_line file_faults.NoMemory = memory_line
file_line file_faults.ReadFault = read_line
file_line (file_faults.BadLine role line why) = bad_line role line why

abbrev pub service_line : ServeFault → List ℕ
service_line serve_faults.NoMemory = memory_line
service_line serve_faults.ReadFault = read_line
service_line serve_faults.WriteFault = write_line

-- the line on a refusal by its number and name
abbrev pub numbered_line : Refusal → List ℕ
numbered_line refusal =
    codes "oldstyle: " ++ refusal_end (refusal_number refusal) (refusal_name refusal)

-- the line on a refusal by its number and name, and how more is allowed if the refusal is at a
-- limit
abbrev pub hinted_line : Refusal → List ℕ
hinted_line refusal = codes "oldstyle: "
    ++ refusal_end (refusal_number refusal) (refusal_name refusal ++ limit_hint refusal)

abbrev pub refusal_line : Refusal → List ℕ
refusal_line refusals.NoMemory = memory_line
refusal_line refusal = hinted_line refusal

-- the line on a fault of a desk by its number and name
abbrev pub numbered_desk : DeskFault → List ℕ
numbered_desk fault =
    codes "oldstyle: " ++ refusal_end (desk_fault_number fault) (desk_fault_name fault)

abbrev pub desk_line : DeskFault → List ℕ
desk_line desk_faults.NoMemory = memory_line
desk_line fault = numbered_desk fault

abbrev pub keep_line : KeepFault → List ℕ
keep_line Held = codes "oldstyle: another run of the program keeps that journal\n"
keep_line (NotOpened cause) = read_line

abbrev pub kept_file_line : KeptFileFault → List ℕ
kept_file_line (ChangeFailed cause) = write_line
kept_file_line Replaced = codes "oldstyle: another program moved, replaced or changed the journal: "
    ++ codes "no more is kept in it\n"

abbrev pub followed_line : FollowFault → List ℕ
followed_line follow_faults.NoMemory = memory_line
followed_line (follow_faults.NotRead cause) = read_line
followed_line follow_faults.Shorter = codes "oldstyle: the journal that is followed got shorter: "
    ++ codes "no further line is answered\n"
followed_line follow_faults.Replaced =
    codes "oldstyle: the journal that is followed was replaced or removed: "
    ++ codes "no further line is answered\n"

-- the line on standard error
abbrev pub fault_line : CommandFault → List ℕ
fault_line (faults.File why) = file_line why
fault_line (faults.Service why) = service_line why
fault_line (faults.Refused refusal) = refusal_line refusal
fault_line (faults.Desk why) = desk_line why
fault_line faults.KeptWithOther = codes "oldstyle: --keep can't be used with --journal or --save\n"
fault_line faults.UpgradeWithoutKeep = codes "oldstyle: --upgrade can only be used with --keep\n"
fault_line (faults.Keep why) = keep_line why
fault_line (faults.KeptFile why) = kept_file_line why
fault_line faults.FollowedWithOther =
    codes "oldstyle: --follow can't be used with --journal, --save or --keep\n"
fault_line (faults.FollowedFile why) = followed_line why
fault_line (faults.OlderVersion version) = older_line version
fault_line (faults.RefusedLine line) = refused_line line
fault_line (faults.NotOpened cause) = read_line
fault_line (faults.ReadFault cause) = read_line
fault_line faults.WriteFault = write_line
fault_line (faults.NotSaved cause) = write_line
fault_line faults.NoMemory = memory_line
