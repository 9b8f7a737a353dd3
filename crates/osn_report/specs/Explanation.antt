-- What explains a fault by the path of its file, in a line after that of the fault. This project's
-- profile.
use Rattle.std.specs.Prelude.{ℕ, ◌==◌, Bool, true, false, ◌&&◌, List, [], ◌++◌, codes, Option, Some}
use Rattle.std.specs.Prelude.{None, if◌then◌else◌}
use Rattle.std.specs.Fmt.{decimal}
use Rattle.osn_files.specs.declared.fault.FileFault.{FileFault}
use Rattle.osn_files.specs.declared.fault.FileFault.TheVariants as file_faults
use Rattle.osn_files.specs.declared.fault.LineFault.{LineFault}
use Rattle.osn_files.specs.declared.fault.LineFault.TheVariants as line_faults
use Rattle.osn_files.specs.declared.fault.Role.{Role}
use Rattle.osn_files.specs.declared.fault.Role.TheVariants.{Journal, Script}
use Rattle.osn_files.specs.declared.fault.Role.TheVariants.{Questions, Schedule, Transcript}
use Rattle.osn_folder.specs.declared.fault.ChangeCause.{ChangeCause}
use Rattle.osn_folder.specs.declared.fault.ChangeCause.TheVariants as changes
use Rattle.osn_folder.specs.declared.fault.FollowFault.{FollowFault}
use Rattle.osn_folder.specs.declared.fault.FollowFault.TheVariants.{NotRead}
use Rattle.osn_folder.specs.declared.fault.KeepFault.{KeepFault}
use Rattle.osn_folder.specs.declared.fault.KeepFault.TheVariants.{NotOpened}
use Rattle.osn_folder.specs.declared.fault.KeptFileFault.{KeptFileFault}
use Rattle.osn_folder.specs.declared.fault.KeptFileFault.TheVariants.{ChangeFailed}
use Rattle.osn_request.specs.declared.wire_fault.WireFault.{WireFault}
use Rattle.osn_request.specs.declared.wire_fault.WireFault.TheVariants.{LineTooLong, NotJson}
use Rattle.osn_request.specs.declared.wire_fault.WireFault.TheVariants.{NotObject, BadHead}
use Rattle.osn_request.specs.declared.wire_fault.WireFault.TheVariants.{BadField}
use Rattle.osn_request.specs.declared.member.Member.TheVariants as members
use Rattle.osn_lines.specs.Escape.{escaped_text}
use Rattle.osn_report.specs.OpenFailure.{cause_text}
use Rattle.osn_report.specs.declared.fault.CommandFault.{CommandFault}
use Rattle.osn_report.specs.declared.fault.CommandFault.TheVariants as faults

-- why a file could not be made or changed
abbrev pub change_text : ChangeCause → List ℕ
change_text changes.NoFolder = codes "no such folder"
change_text changes.PermissionDenied = codes "permission denied"
change_text changes.NoSpace = codes "no space left on the device"
change_text changes.Other = codes "write fault"

-- the line of a note with this message on the file of a path
abbrev pub note : List ℕ → List ℕ → List ℕ
note path said = codes "note: " ++ (escaped_text path ++ (codes ": " ++ (said ++ codes "\n")))

-- ---- a bad line of a journal

-- the words that a file is not a journal, how the journal is named if its word was left out, and
-- how one begins
abbrev pub head_text : List ℕ → List ℕ
head_text path = codes "help: "
    ++ (escaped_text path
    ++ (codes " is not a journal: --journal FILE names one, and "
    ++ codes "oldstyle publish FILE TEXT begins one in a new or empty file\n"))

-- what a stop may have left at the end of a journal, and what cuts it off
abbrev pub torn_text : ℕ → List ℕ → List ℕ
torn_text line path = codes "help: if line " ++ (decimal line
    ++ (codes " is the last, a run that was stopped left it unfinished: oldstyle serve --keep "
    ++ (escaped_text path ++ codes " < /dev/null cuts it off\n")))

-- the help with the first line, if it is not the head of a journal, and with a later one, if it is
-- not JSON
abbrev pub head_help : List ℕ → WireFault → Option (List ℕ)
head_help path LineTooLong = Some (head_text path)
head_help path NotJson = Some (head_text path)
head_help path NotObject = Some (head_text path)
head_help path BadHead = Some (head_text path)
head_help path fault = None

abbrev pub torn_help : List ℕ → ℕ → WireFault → Option (List ℕ)
torn_help path line NotJson = Some (torn_text line path)
torn_help path line fault = None

abbrev pub line_help : List ℕ → ℕ → LineFault → Option (List ℕ)
line_help path line (line_faults.Wire fault) =
    if line == 1 then head_help path fault else torn_help path line fault
line_help path line (line_faults.Register refusal) = None

-- ---- a bad line of another file

-- what the lines of a file of this role are
abbrev pub form_text : Role → List ℕ
form_text Journal = []
form_text Script = codes "the first line of a script is {\"journal\":2}"
form_text Questions = codes
    "each line of the questions is a query, such as {\"op\":\"lands\",\"reader\":1}"
form_text Schedule = codes "each line of a schedule is a step, such as {\"step\":\"publish\"}"
form_text Transcript = codes
    "each line of a transcript is a query with its reply, as oldstyle desk prints them"

abbrev pub form_line : List ℕ → Role → List ℕ
form_line path role =
    codes "help: " ++ (escaped_text path ++ (codes ": " ++ (form_text role ++ codes "\n")))

-- a line is of another kind: it is not an object, or lacks the member that all of them have
abbrev pub is_other_kind : Role → WireFault → Bool
is_other_kind role NotJson = true
is_other_kind role NotObject = true
is_other_kind Script BadHead = true
is_other_kind Questions (BadField members.Op) = true
is_other_kind Schedule (BadField members.Step) = true
is_other_kind Transcript (BadField members.Ask) = true
is_other_kind role fault = false

-- the help with the first line, if it is of another kind
abbrev pub form_help : List ℕ → Role → ℕ → LineFault → Option (List ℕ)
form_help path role line (line_faults.Wire fault) =
    if line == 1 && is_other_kind role fault then Some (form_line path role) else None
form_help path role line (line_faults.Register refusal) = None

abbrev pub role_help : List ℕ → Role → ℕ → LineFault → Option (List ℕ)
role_help path Journal line fault = line_help path line fault
role_help path role line fault = form_help path role line fault

-- ---- each fault

abbrev pub file_explanation : List ℕ → FileFault → Option (List ℕ)
file_explanation path file_faults.NoMemory = None
file_explanation path file_faults.ReadFault = Some (note path (codes "read fault"))
file_explanation path (file_faults.BadLine role line fault) = role_help path role line fault

abbrev pub keep_explanation : List ℕ → KeepFault → Option (List ℕ)
keep_explanation path (NotOpened cause) = Some (note path (cause_text cause))
keep_explanation path fault = None

abbrev pub kept_explanation : List ℕ → KeptFileFault → Option (List ℕ)
kept_explanation path (ChangeFailed cause) = Some (note path (change_text cause))
kept_explanation path fault = None

abbrev pub followed_explanation : List ℕ → FollowFault → Option (List ℕ)
followed_explanation path (NotRead cause) = Some (note path (cause_text cause))
followed_explanation path fault = None

-- the line that explains a fault of the file of a path, if one does
abbrev pub explanation : List ℕ → CommandFault → Option (List ℕ)
explanation path (faults.File fault) = file_explanation path fault
explanation path (faults.ReadFault cause) = Some (note path (cause_text cause))
explanation path (faults.Keep fault) = keep_explanation path fault
explanation path (faults.KeptFile fault) = kept_explanation path fault
explanation path (faults.FollowedFile fault) = followed_explanation path fault
explanation path (faults.NotSaved cause) = Some (note path (change_text cause))
explanation path fault = None
