-- What the service that keeps its journal in a file has done: which object it began with, what it
-- wrote and reported, and what the file contains then.
use Rattle.std.specs.Prelude.{◌≡◌, ◌+◌, ◌⊎◌, ⊤, ℕ, Bool, true, false, List, [], ◌∷◌, ◌++◌}
use Rattle.std.specs.Prelude.{take, Option, Some, None, Result, Ok, Err, codes}
use Rattle.std.specs.Fmt.{decimal}
use Rattle.osn_days.specs.Rules.{newest_rules}
use Rattle.osn_register.specs.declared.limits.Limits.{Limits}
use Rattle.osn_core.specs.Sequential.{ObjectState, empty_object}
use Rattle.osn_lines.specs.Faults.{IsReadFault}
use Rattle.osn_lines.specs.Lines.{lines}
use Rattle.osn_lines.specs.Streams.{Input, Output}
use Rattle.osn_lines.specs.declared.fault.EndedEarly.{EndedEarly}
use Rattle.osn_request.specs.Version.{has_sources, plain_version}
use Rattle.osn_request.specs.declared.version.Version.{Version}
use Rattle.osn_request.specs.declared.version.Version.TheVariants.{First, Second, Fourth}
use Rattle.osn_files.specs.Faults.{MatchFileFault}
use Rattle.osn_files.specs.Journal.{load}
use Rattle.osn_files.specs.JournalText.{line_text}
use Rattle.osn_files.specs.LoadedText.{IsOfVersion}
use Rattle.osn_files.specs.Version.{head_data}
use Rattle.osn_files.specs.CountedPrefix.{last_line_of, whole_bytes, whole_count}
use Rattle.osn_files.specs.declared.fault.FileFault.{FileFault}
use Rattle.osn_files.specs.declared.fault.LineFault.{LineFault}
use Rattle.osn_files.specs.declared.fault.Role.TheVariants.{Journal}
use Rattle.osn_files.specs.declared.last_line.LastLine.{LastLine}
use Rattle.osn_files.specs.declared.last_line.LastLine.TheVariants.{Ended, LacksFeed, Unfinished}
use Rattle.osn_folder.specs.declared.fault.KeptFileFault.{KeptFileFault}
use Rattle.osn_service.specs.Serves.{ServesStore}
use Rattle.osn_service.specs.declared.fault.ServiceFault.{ServiceFault}
use Rattle.osn_service.specs.declared.rules.ServeRules.{ServeRules}
use Rattle.osn_service.specs.declared.service.Served.{Served}
use Rattle.osn_journal.specs.KeptJournal.{FileState, KeepsFile}
use Rattle.osn_report.specs.Messages.{WritesLine, Ends, ReportsAt}
pub use Rattle.osn_report.specs.Messages.{first_output, later_output}
use Rattle.osn_report.specs.declared.fault.CommandFault.{CommandFault}
use Rattle.osn_report.specs.declared.fault.CommandFault.TheVariants.{File, KeptFile, OlderVersion}
use Rattle.osn_report.specs.declared.fault.CommandFault.TheVariants.{NoMemory}
use Rattle.osn_report.specs.declared.status.Status.{Status}
use Rattle.osn_serve_commands.specs.Serve.{EndsServed}

-- ---- what the file contains

-- the object that lines make: an empty one if there are none
abbrev pub object_of : Limits → List ℕ → Result ObjectState (ℕ × LineFault)
object_of limits [] = Ok (empty_object limits)
object_of limits (b ∷ bs) = load newest_rules limits (lines (b ∷ bs))

-- the object of a file, by its lines that count, or the first fault and the number of its line
abbrev pub kept_object : Limits → List ℕ → Result ObjectState (ℕ × LineFault)
kept_object limits content = object_of limits (whole_bytes content)

-- lines say a version: the first of them does, and if there are no lines it is the plain one
abbrev pub SaysVersion : Version → List ℕ → Type 0
SaysVersion version [] = version ≡ plain_version
SaysVersion version (b ∷ bs) = IsOfVersion version (lines (b ∷ bs))

-- a file contains this object, in a journal of this version
pub record HoldsObject (limits : Limits) (content : List ℕ) (version : Version) (s : ObjectState)
    : Type 0 where
  pub object : kept_object limits content ≡ Ok s
  pub says : SaysVersion version (whole_bytes content)

-- a journal of this version is kept: one of the first version lacks styles that an edit may have
abbrev pub is_kept : Version → Bool
is_kept First = false
is_kept Second = true
is_kept Fourth = true

-- the head that is missing: that of a journal if there is no line
abbrev pub missing_head : List ℕ → List ℕ
missing_head [] = line_text (head_data plain_version)
missing_head (b ∷ bs) = []

-- the text that is missing after these lines, by the state of the last one: its line feed, or the
-- head
abbrev pub missing_end : LastLine → List ℕ → List ℕ
missing_end Ended bytes = missing_head bytes
missing_end LacksFeed bytes = 10 ∷ []
missing_end Unfinished bytes = missing_head bytes

-- the text that is missing after the lines of a file that count
abbrev pub missing_text : List ℕ → List ℕ
missing_text content = missing_end (last_line_of content) (whole_bytes content)

-- what the file contains once the service begins: its lines that count, and the text that is
-- missing there
abbrev pub kept_text : List ℕ → List ℕ
kept_text content = whole_bytes content ++ missing_text content

-- this number, if the last line was not finished
abbrev pub if_unfinished : LastLine → ℕ → Option ℕ
if_unfinished Ended line = None
if_unfinished LacksFeed line = None
if_unfinished Unfinished line = Some line

-- the number of the last line if that was not finished
abbrev pub unfinished_line : List ℕ → Option ℕ
unfinished_line content = if_unfinished (last_line_of content) (whole_count content + 1)

-- ---- what is written to standard error

-- the line on a line that was cut off
abbrev pub cut_line : ℕ → List ℕ
cut_line line = codes "oldstyle: journal line "
    ++ (decimal line ++ codes " was unfinished, and is cut off\n")

-- which line was cut off was reported, if one was
abbrev pub ReportsCut : Output → Option ℕ → Type 0
ReportsCut e None = e.new ≡ e.old
ReportsCut e (Some line) = WritesLine e (cut_line line)

-- the line on the line that was cut off, if one was
abbrev pub cut_text : Option ℕ → Option (List ℕ)
cut_text None = None
cut_text (Some line) = Some (cut_line line)

-- a text was written, if there is one
abbrev pub ReportsText : Output → Option (List ℕ) → Type 0
ReportsText e None = e.new ≡ e.old
ReportsText e (Some text) = WritesLine e text

-- ---- why the service did not begin

-- the file contains no object for it, by its first fault, or was not read
abbrev pub IsUnread : Limits → List ℕ → Bool → FileFault → Type 0
IsUnread limits content failed why =
    MatchFileFault why ⊤ (IsReadFault failed (Some content))
    (λ role line said. (role ≡ Journal) × (kept_object limits content ≡ Err (line, said)))

-- why a file makes no object, given whether a read of it has failed
abbrev pub HoldsNoObject : Limits → List ℕ → Bool → CommandFault → Type 0
HoldsNoObject limits content failed fault =
    ((why : FileFault) × (fault ≡ File why) × IsUnread limits content failed why)
    ⊎ (fault ≡ NoMemory)

-- it contains an object, in a journal of a version that is not kept
abbrev pub HoldsOlder : Limits → List ℕ → CommandFault → Type 0
HoldsOlder limits content fault =
    (version : Version) × (fault ≡ OlderVersion version) × (is_kept version ≡ false)
    × (s : ObjectState) × HoldsObject limits content version s

-- the file could not be changed, or is another one now, as it reports; or there was no memory
abbrev pub IsChangeFault : CommandFault → Option KeptFileFault → Type 0
IsChangeFault fault message =
    ((why : KeptFileFault) × (message ≡ Some why) × (fault ≡ KeptFile why)) ⊎ (fault ≡ NoMemory)

-- the file is as it was; or its last line was cut off, if it was not finished. Then a prefix of the
-- missing text may follow the lines that count
abbrev pub IsLeft : List ℕ → Option ℕ → Option (List ℕ) → Type 0
IsLeft content cut contents =
    ((cut ≡ None) × (contents ≡ Some content))
    ⊎ ((cut ≡ unfinished_line content)
    × (n : ℕ) × (contents ≡ Some (whole_bytes content ++ take n (missing_text content))))

-- the service did not begin by this fault. There was no object, or one of a version that is not
-- kept, and the file is as it was; or there was one, and the file could not be made ready
abbrev pub DoesNotBegin : Limits → List ℕ → Bool → Option ℕ → FileState → CommandFault → Type 0
DoesNotBegin limits content failed cut file fault =
    ((HoldsNoObject limits content failed fault ⊎ HoldsOlder limits content fault)
    × (cut ≡ None) × (file.contents ≡ Some content))
    ⊎ (IsChangeFault fault file.fault × IsLeft content cut file.contents
    × (version : Version) × (s : ObjectState) × HoldsObject limits content version s)

-- ---- the command

-- a fact about the bytes of a kept file, if they are known, and its source gave them
abbrev pub IfHeld : FileState → Option (List ℕ) → (List ℕ → Type 0) → Type 0
IfHeld old input P = (content : List ℕ) → old.contents ≡ Some content → input ≡ Some content
    → P content

-- a file that contains this text, all of it on the disk, and that has failed by this fault before,
-- if at all
abbrev pub ready_file : List ℕ → Option KeptFileFault → FileState
ready_file text before = record { contents = Some text; synced = Some text; fault = before }

-- the service began with this object, by this version, and the file was ready then: its last line
-- was cut off, if that was not finished
abbrev pub Begins : Limits → List ℕ → Option KeptFileFault → Option ℕ → Version → ObjectState
    → FileState → Type 0
Begins limits content before cut version s ready =
    HoldsObject limits content version s × (is_kept version ≡ true)
    × (cut ≡ unfinished_line content)
    × (ready ≡ ready_file (kept_text content) before)

-- what the lines may do over a file of this version: an edit may give a source if the version has
-- sources
abbrev pub for_version : Version → ServeRules → ServeRules
for_version version rules = record rules { takes_sources = has_sources version }

-- The service began, answered the lines of the input and kept the file.
pub record KeepsLines (path : List ℕ) (rules : ServeRules) (s : ObjectState)
    (ready file : FileState) (i : Input) (o e : Output) (status : Status) : Type 0 where
  pub object : ObjectState
  pub result : Result Served (EndedEarly (ServiceFault KeptFileFault))
  pub serves : ServesStore rules s object i o result
  pub keeps : KeepsFile rules s object i.bytes ready file result
  pub ended : EndsServed result e status (Ends e None status) ⊤
      (λ why. ReportsAt path e (KeptFile why) status)

-- How a run of the service that keeps the file of this path ended. The file was `old` and is `file`
-- then, and a source gave it.
pub record EndsKept (limits : Limits) (path : List ℕ) (rules : ServeRules) (old file : FileState)
    (input i : Input) (o e : Output) (status : Status) : Type 0 where
  -- which line was cut off was reported first, if one was
  pub cut : Option ℕ
  pub between : Option (List ℕ)
  pub failed : Bool
  pub held_back : Bool
  pub reports : ReportsCut (first_output e between failed held_back) cut
  -- the service did not begin, and nothing was written; or it began
  pub ended : ((fault : CommandFault) × (o.new ≡ o.old)
      × ReportsAt path (later_output e between failed) fault status
      × IfHeld old input.bytes
      (λ content. DoesNotBegin limits content input.unread cut file fault))
      ⊎ ((version : Version) × (s : ObjectState) × (ready : FileState)
      × IfHeld old input.bytes (λ content. Begins limits content old.fault cut version s ready)
      × KeepsLines path (for_version version rules) s ready file i o
      (later_output e between failed) status)
