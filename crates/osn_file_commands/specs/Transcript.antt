-- The text of a desk, and why there is none.
use Rattle.std.specs.Prelude.{◌≡◌, ◌⊎◌, ℕ, ◌+◌, List, [], ◌∷◌, ◌++◌, length, map, Vec}
use Rattle.std.specs.declared.alloc.Global.{Global}
use Rattle.osn_days.specs.Rules.{newest_rules}
use Rattle.osn_register.specs.declared.limits.Limits.{Limits}
use Rattle.osn_register.specs.declared.query.Query.{Query}
use Rattle.osn_core.specs.declared.command.Command.{Command}
use Rattle.osn_core.specs.declared.step.Reply.{Reply}
use Rattle.osn_core.specs.Script.{editions_of}
use Rattle.osn_lines.specs.Streams.{Input}
use Rattle.osn_live.specs.Desk.{AreAll}
use Rattle.osn_live.specs.Faults.{IsBadCount, IsDeskFault}
use Rattle.osn_live.specs.declared.faults.DeskFault.{DeskFault}
use Rattle.osn_files.specs.Questions.{questions}
use Rattle.osn_files.specs.Script.{script}
use Rattle.osn_files.specs.declared.fault.FileFault.{FileFault}
use Rattle.osn_files.specs.declared.fault.Role.TheVariants.{Script, Questions}
use Rattle.osn_service.specs.Transcript.{transcript_line}
use Rattle.osn_report.specs.Files.{Makes, IsFileFault}
use Rattle.osn_report.specs.declared.fault.CommandFault.{CommandFault}
use Rattle.osn_report.specs.declared.fault.CommandFault.TheVariants.{Desk, File, NoMemory}

-- the lines of one reader, a question each with its reply
abbrev pub reader_lines : ℕ → List Query → List Reply → List ℕ
reader_lines reader [] rs = []
reader_lines reader (q ∷ qs) [] = []
reader_lines reader (q ∷ qs) (r ∷ rs) = transcript_line reader q r ++ reader_lines reader qs rs

-- the lines of readers in order, of whom the first has this number
abbrev pub transcript_from : ℕ → List (Vec Query Global) → List (Vec Reply Global) → List ℕ
transcript_from reader [] all = []
transcript_from reader (qs ∷ lists) [] = []
transcript_from reader (qs ∷ lists) (rs ∷ all) =
    reader_lines reader qs.items rs.items ++ transcript_from (reader + 1) lists all

-- why the two files make no desk, of which the first is read before the second
abbrev pub MakeNoDesk : Input → Input → FileFault → Type 0
MakeNoDesk editor readers fault =
    IsFileFault Script script editor fault
    ⊎ ((commands : List Command) × Makes script editor.bytes commands
    × IsFileFault Questions questions readers fault)

-- what the two files make: the commands of the editor, and a list of questions for each reader
abbrev pub MakeDesk : Input → Input → List Command → List (Vec Query Global) → Type 0
MakeDesk editor readers commands lists =
    Makes script editor.bytes commands
    × Makes questions readers.bytes (map (λ qs. qs.items) lists)

-- the text of a desk has the lines of its replies
abbrev pub DeskAnswers : Limits → List Command → List (Vec Query Global) → List ℕ → Type 0
DeskAnswers limits commands lists text =
    (IsBadCount (length lists) → ⊥) × (all : List (Vec Reply Global))
    × AreAll newest_rules limits (editions_of newest_rules limits commands) lists all
    × (text ≡ transcript_from 1 lists all)

-- why there is none: a fault of the desk, or there was no memory for the text
abbrev pub DeskFails : Limits → List Command → List (Vec Query Global) → CommandFault → Type 0
DeskFails limits commands lists fault =
    ((why : DeskFault)
    × IsDeskFault (length lists) (length (editions_of newest_rules limits commands)) why
    × (fault ≡ Desk why))
    ⊎ (fault ≡ NoMemory)

-- the text of the command is that of the desk which the files make
abbrev pub Transcribes : Limits → Input → Input → List ℕ → Type 0
Transcribes limits editor readers text =
    (commands : List Command) × (lists : List (Vec Query Global))
    × MakeDesk editor readers commands lists × DeskAnswers limits commands lists text

-- why there is none: the files make no desk; or they make one, and it has no text
abbrev pub TranscribesNot : Limits → Input → Input → CommandFault → Type 0
TranscribesNot limits editor readers fault =
    ((why : FileFault) × MakeNoDesk editor readers why × (fault ≡ File why))
    ⊎ ((commands : List Command) × (lists : List (Vec Query Global))
    × MakeDesk editor readers commands lists × DeskFails limits commands lists fault)
