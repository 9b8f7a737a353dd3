-- What the command `plan` has done over the files of a folder: the journal, and the text.
use Rattle.std.specs.Prelude.{◌≡◌, ◌⊎◌, ◌&&◌, Bool, false, true, List, [], ◌∷◌, ℕ, Option, Some}
use Rattle.std.specs.Prelude.{None, MatchResult, is_some, option_map}
use Rattle.osn_core.specs.Edition.{edition_of_word}
use Rattle.osn_page_commands.specs.Editions.{ReportsEditionWord}
use Rattle.osn_folder.specs.Folder.{CannotOpen, Changes, IsCauseAt, IsFileOf, FolderModel, Opens}
use Rattle.osn_folder.specs.declared.fault.OpenFailed.{OpenFailed}
use Rattle.osn_folder.specs.declared.fault.OpenFailed.TheVariants as causes
use Rattle.osn_lines.specs.Streams.{Input, Output}
use Rattle.osn_register.specs.declared.limits.Limits.{Limits}
use Rattle.osn_report.specs.Folders.{Folders, ReadsOne}
use Rattle.osn_report.specs.Messages.{ReportsIfMade, ReportsNothing}
use Rattle.osn_report.specs.OpenFailure.{open_failure_line}
use Rattle.osn_report.specs.declared.status.Status.{Status}
use Rattle.osn_report.specs.declared.status.Status.TheVariants as statuses
use Rattle.osn_serve_commands.specs.InFolder.{CanFailIf}
use Rattle.osn_serve_commands.specs.Keep.{first_output, later_output}
use Rattle.osn_commands.specs.HindranceCause.{ReportsHindrance}
use Rattle.osn_commands.specs.Plan.{PrintsPlan}
use Rattle.osn_commands.specs.Text.{PrintsText}
use Rattle.osn_commands.specs.declared.plan.PlanEnd.{PlanEnd}

-- the file of this path was opened, and will give these bytes; or there is no such file
abbrev pub IsOpened : List ℕ → Option (Option (List ℕ)) → Option FolderModel → Option FolderModel
    → Type 0
IsOpened path None before after =
    CannotOpen (path ∷ []) before after × IsCauseAt before path causes.NotFound
IsOpened path (Some bytes) before after =
    IsFileOf before path bytes × Changes (Opens (path ∷ [])) before after

-- the text of a journal's edition was printed, by the word of the edition, if there is one. If it
-- is not the number of an edition, this was reported, and no file was opened
abbrev pub RunsText : Limits → List ℕ → Option (List ℕ) → Option (List ℕ) → (Bool → Type 0)
    → Folders → Output → Output → Status → Type 0
RunsText limits journal edition code CanFail d o e status = MatchResult (edition_of_word edition)
    (λ number. ReadsOne journal CanFail d
    (λ file. PrintsText limits journal file number code o e status))
    (λ word. (d.after ≡ d.before) × (o.new ≡ o.old) × ReportsEditionWord word e status)

-- the text of a path could not be opened, which was reported with the cause, and nothing was
-- written
abbrev pub MissesText : List ℕ → Folders → Output → Output → Status → Type 0
MissesText path d o e status =
    CannotOpen (path ∷ []) d.before d.after × (o.new ≡ o.old)
    × (cause : OpenFailed) × IsCauseAt d.before path cause
    × ReportsIfMade e statuses.ReadFault (open_failure_line path cause) status

-- the plan for a journal of this path, which is there or not, was printed, if the text could be
-- opened
abbrev pub PrintsPlanBy : Limits → List ℕ → Option Input → List ℕ → (Bool → Type 0) → Folders
    → Output → Output → PlanEnd → Type 0
PrintsPlanBy limits path journal text_path CanFail d o e end =
    MissesText text_path d o e end.status
    ⊎ ReadsOne text_path CanFail d
    (λ text. PrintsPlan limits path journal text_path text o e end)

-- after all was printed the status is that the input was refused, if edits are a refusal
abbrev pub refused_if : Bool → Status → Status
refused_if false status = status
refused_if true statuses.Done = statuses.Refused
refused_if true status = status

-- after a plan that was printed it was reported why the journal could not be kept, if that was
-- found
abbrev pub ReportsHindranceAfter : Status → Bool → List ℕ → Bool → Option FolderModel
    → Option FolderModel
    → Output → Status → Type 0
ReportsHindranceAfter statuses.Done refuses path is_there before after e status =
    (reported : Status) × ReportsHindrance path is_there before after e reported
    × (status ≡ refused_if refuses reported)
ReportsHindranceAfter printed refuses path is_there before after e status =
    (status ≡ printed) × (after ≡ before) × ReportsNothing e

-- The journal was opened, if it is there, and then the text, and the plan was printed. Then it was
-- reported why the journal could not be kept, if that was found. The option --strict makes a
-- refusal of a plan with edits.
pub record PlansInFolder (limits : Limits) (path text_path : List ℕ) (strict : Bool)
    (CanFail : Bool → Type 0) (d : Folders) (o e : Output) (status : Status) : Type 0 where
  pub journal : Option Input
  pub opened : Option FolderModel
  pub opens : IsOpened path (option_map (λ journal. journal.bytes) journal) d.before opened
  pub fails : CanFailIf CanFail journal
  pub planned : Option FolderModel
  pub between : Option (List ℕ)
  pub failed : Bool
  pub held_back : Bool
  pub printed : PlanEnd
  pub prints : PrintsPlanBy limits path journal text_path CanFail
      (record { before = opened; after = planned }) o (first_output e between failed held_back)
      printed
  pub reports : ReportsHindranceAfter printed.status (strict && printed.has_edits) path
      (is_some journal) planned d.after (later_output e between failed) status
