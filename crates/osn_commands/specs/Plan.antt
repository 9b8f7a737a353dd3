-- What the command `plan` prints, and what it writes to standard error.
use Rattle.std.specs.Prelude.{◌≡◌, ◌⊎◌, ◌+◌, ◌++◌, ◌==◌, ⊤, ℕ, Bool, List, length, not}
use Rattle.std.specs.Prelude.{Option, Some, None, IfSome, is_some}
use Rattle.osn_days.specs.Rules.{newest_rules}
use Rattle.osn_core.specs.Sequential.{ObjectState}
use Rattle.osn_files.specs.LoadedText.{IsOfVersion}
use Rattle.osn_files.specs.declared.fault.FileFault.{FileFault}
use Rattle.osn_request.specs.declared.version.Version.{Version}
use Rattle.osn_lines.specs.Lines.{lines}
use Rattle.osn_lines.specs.Streams.{Input, Output}
use Rattle.osn_register.specs.Plain.{RegisterModel}
use Rattle.osn_register.specs.declared.edit.Edit.{Edit}
use Rattle.osn_register.specs.declared.limits.Limits.{Limits}
use Rattle.osn_report.specs.Journal.{Begins, BeginsNot}
use Rattle.osn_report.specs.Printing.{PrintsIfMade, PrintsNoneAt}
use Rattle.osn_report.specs.Messages.{ReportsIfMade, ReportsNothing}
use Rattle.osn_report.specs.declared.fault.CommandFault.TheVariants.{File}
use Rattle.osn_report.specs.declared.status.Status.{Status}
use Rattle.osn_report.specs.declared.status.Status.TheVariants as statuses
use Rattle.osn_serve_commands.specs.Keep.{first_output, later_output}
use Rattle.osn_register_text.specs.Fault.{IsFault}
use Rattle.osn_register_text.specs.Plan.{IsPlan}
use Rattle.osn_register_text.specs.declared.plan_fault.PlanFault.{PlanFault}
use Rattle.osn_register_text.specs.PlanPage.{plan_page}
use Rattle.osn_commands.specs.Note.{ReportsNote, note_line, note_of}
use Rattle.osn_commands.specs.PlanFault.{ReportsPlanFault}
use Rattle.osn_commands.specs.PlanWords.{plan_end}
use Rattle.osn_commands.specs.Since.{behind, behind_lines, later_lines, later_than}
use Rattle.osn_commands.specs.Text.{published}
use Rattle.osn_commands.specs.TextFile.{Says, IsTextFileFault, ReportsTextFile}
use Rattle.osn_commands.specs.declared.plan.PlanEnd.{PlanEnd}
use Rattle.osn_commands.specs.declared.text_file.TextFileFault.{TextFileFault}

-- the lines of a plan, which would be the next edition of an object
abbrev pub plan_text : ObjectState → RegisterModel → List Edit → List ℕ
plan_text s target edits =
    plan_page newest_rules (published s) target.territories edits
    ++ plan_end (length edits) (length s.batches + 1)

-- ---- what is written beside a plan

-- a line was written if all was printed, or else nothing more
abbrev pub ReportsNoteAfter : Status → Option (List ℕ) → Output → Status → Type 0
ReportsNoteAfter statuses.Done line e status = ReportsNote line e status
ReportsNoteAfter printed line e status = (status ≡ printed) × ReportsNothing e

-- A text was printed, and then a line written to standard error, if there is one.
pub record PrintsNoted (text : List ℕ) (note : Option (List ℕ)) (o e : Output) (status : Status)
    : Type 0 where
  pub between : Option (List ℕ)
  pub failed : Bool
  pub held_back : Bool
  pub printed : Status
  pub prints : PrintsIfMade text o (first_output e between failed held_back) printed
  pub notes : ReportsNoteAfter printed note (later_output e between failed) status

-- the line that a text is behind an edition, or else another line
abbrev pub behind_or : List ℕ → List ℕ → ObjectState → Option ℕ → Option (List ℕ)
    → Option (List ℕ)
behind_or journal text s None other = other
behind_or journal text s (Some edition) other =
    Some (behind_lines text journal edition (published s) s.batches)

-- ---- how the command ends

-- the line on the edits of a plan to a text of an edition, for the journal of this version that
-- makes an object, and is there or not; the paths are those of the journal and of the text
abbrev pub edits_line : List ℕ → List ℕ → Bool → Version → ObjectState → Option ℕ → List Edit
    → Option (List ℕ)
edits_line journal text is_there version s edition edits =
    behind_or journal text s (behind edition s.batches edits)
    (note_line journal (note_of is_there version s edits))

-- there is no plan from the published register to the target one, which was reported with the path
-- of the text
abbrev pub RefusesPlan : ObjectState → List ℕ → RegisterModel → Output → Output → Status → Type 0
RefusesPlan s path target o e status =
    (fault : PlanFault) × IsFault s.limits target.territories (published s) fault × (o.new ≡ o.old)
    × ReportsPlanFault path e fault status

-- there is something to change
abbrev pub has_edits : List Edit → Bool
has_edits edits = not (length edits == 0)

-- the plan from what an object has published to the target register was printed, and then
-- lines on its edits were written, if there are some; or there is no plan
abbrev pub PrintsPlanTo : ObjectState → List ℕ → RegisterModel → (List Edit → Option (List ℕ))
    → Output → Output → PlanEnd → Type 0
PrintsPlanTo s path target note o e end =
    RefusesPlan s path target o e end.status
    ⊎ ((edits : List Edit) × IsPlan s.limits target.territories (published s) edits
    × PrintsNoted (plan_text s target edits) (note edits) o e end.status
    × (end.has_edits ≡ has_edits edits))

-- the file of this path says no register, which was reported
abbrev pub RefusesText : Limits → List ℕ → Input → Output → Output → Status → Type 0
RefusesText limits path text o e status =
    (fault : TextFileFault) × IsTextFileFault limits text fault × (o.new ≡ o.old)
    × ReportsTextFile path e fault status

-- a plan was printed, unless the text is of an edition that the journal lacks, which was reported
abbrev pub PrintsUnlessLater : Option ℕ → ObjectState → List ℕ → List ℕ → RegisterModel
    → (List Edit → Option (List ℕ)) → Output → Output → PlanEnd → Type 0
PrintsUnlessLater None s journal path target note o e end =
    PrintsPlanTo s path target note o e end
PrintsUnlessLater (Some edition) s journal path target note o e end =
    (o.new ≡ o.old)
    × ReportsIfMade e statuses.Refused (later_lines path journal edition (length s.batches))
    end.status

-- how a plan is printed for the text of this path. If the text is refused, this was reported; or it
-- says a register and perhaps an edition, and the plan is printed unless that edition is later than
-- the newest one
abbrev pub PrintsPlanOf : Limits → ObjectState → List ℕ → List ℕ → Input
    → (Option ℕ → List Edit → Option (List ℕ)) → Output → Output → PlanEnd → Type 0
PrintsPlanOf limits s journal path text note o e end =
    RefusesText limits path text o e end.status
    ⊎ ((edition : Option ℕ) × (target : RegisterModel) × Says limits text.bytes edition target
    × PrintsUnlessLater (later_than edition (length s.batches)) s journal path target
    (note edition) o e end)

-- a journal is of this version, by its head, if it is there
abbrev pub IsOfVersionIf : Option Input → Version → Type 0
IsOfVersionIf None version = ⊤
IsOfVersionIf (Some journal) version =
    IfSome journal.bytes (λ bytes. IsOfVersion version (lines bytes))

-- how `plan` ends over a journal and a text, each with its path. The journal is refused; or it
-- makes an object, which is empty if there is no journal, and the plan for the text was printed
abbrev pub PrintsPlan : Limits → List ℕ → Option Input → List ℕ → Input → Output → Output
    → PlanEnd → Type 0
PrintsPlan limits path journal text_path text o e end =
    ((fault : FileFault) × BeginsNot limits journal fault
    × PrintsNoneAt path (File fault) o e end.status)
    ⊎ ((s : ObjectState) × Begins limits journal s
    × (version : Version) × IsOfVersionIf journal version
    × PrintsPlanOf limits s path text_path text
    (edits_line path text_path (is_some journal) version s) o e end)
