-- How a publish ends: what it printed and reported, and what the file of the journal contains then.
use Rattle.std.specs.Prelude.{◌≡◌, ◌⊎◌, ◌+◌, ◌++◌, ℕ, Bool, true, false, List, [], ◌∷◌, length}
use Rattle.std.specs.Prelude.{take, codes, Option, Some, None, IfSome}
use Rattle.std.specs.Io.KnownBytes.{Appends}
use Rattle.std.specs.List.{All}
use Rattle.std.specs.Option.{MatchOption}
use Rattle.osn_days.specs.Rules.{newest_rules}
use Rattle.osn_core.specs.Sequential.{HasLawfulSource, ObjectState}
use Rattle.osn_folder.specs.declared.fault.KeptFileFault.{KeptFileFault}
use Rattle.osn_journal.specs.KeptJournal.{FileState}
use Rattle.osn_lines.specs.Streams.{Input, Output}
use Rattle.osn_files.specs.JournalText.{journal_text}
use Rattle.osn_files.specs.CountedPrefix.{whole_bytes}
use Rattle.osn_request.specs.declared.version.Version.{Version}
use Rattle.osn_register_text.specs.Plan.{IsPlan}
use Rattle.osn_register_text.specs.PlanPage.{plan_page}
use Rattle.osn_register.specs.Plain.{RegisterModel}
use Rattle.osn_register.specs.declared.edit.Edit.{Edit}
use Rattle.osn_register.specs.declared.limits.Limits.{Limits}
use Rattle.osn_register.specs.declared.refusal.Refusal.{Refusal}
use Rattle.osn_register.specs.declared.refusal.Refusal.TheVariants as refusals
use Rattle.osn_report.specs.Printing.{FailsToPrint, PrintsIfMade, PrintsNone, PrintsNoneAt}
use Rattle.osn_report.specs.Messages.{Ends, ReportsIfMade, ReportsLine}
use Rattle.osn_report.specs.declared.fault.CommandFault.{CommandFault}
use Rattle.osn_report.specs.declared.fault.CommandFault.TheVariants.{Refused}
use Rattle.osn_report.specs.declared.status.Status.{Status}
use Rattle.osn_report.specs.declared.status.Status.TheVariants as statuses
use Rattle.osn_serve_commands.specs.Keep.{HoldsObject, HoldsNoObject, IfHeld, IsChangeFault}
use Rattle.osn_serve_commands.specs.Keep.{ReportsCut, ready_file, first_output, later_output}
use Rattle.osn_serve_commands.specs.Keep.{cut_text, is_kept, unfinished_line}
use Rattle.osn_commands.specs.Edition.{IsNoMemoryOr, appended_text, edition_refusal}
use Rattle.osn_commands.specs.Edition.{edition_text, needs_sources, with_batch}
use Rattle.osn_commands.specs.Plan.{RefusesPlan}
use Rattle.osn_commands.specs.PlanWords.{new_journal_line, not_kept_line, pending_line}
use Rattle.osn_commands.specs.PlanWords.{published_line, no_change_line}
use Rattle.osn_commands.specs.Since.{RequestModel, behind_lines, hindering_edition, later_lines}
use Rattle.osn_commands.specs.Since.{later_than}
use Rattle.osn_commands.specs.Text.{published}

-- ---- what is printed

-- the line that the journal of a path is new, if it is, and the lines of a plan
abbrev pub begun_text : List ℕ → ObjectState → RegisterModel → List Edit → List ℕ
begun_text path s target edits =
    new_journal_line path (length s.batches)
    ++ plan_page newest_rules (published s) target.territories edits

-- the lines of begun_text, and the line on the edition that was made
abbrev pub published_text : List ℕ → ObjectState → RegisterModel → List Edit → List ℕ
published_text path s target edits =
    begun_text path s target edits ++ published_line (length s.batches + 1)

-- the lines of a plan without edits, and the line that there is nothing to change
abbrev pub no_change_text : ObjectState → RegisterModel → List ℕ
no_change_text s target =
    plan_page newest_rules (published s) target.territories [] ++ no_change_line (length s.batches)

-- the line on an edition whose report could not be printed
abbrev pub unprinted_line : List ℕ
unprinted_line =
    codes "oldstyle: the edition is in the journal, but its report could not be printed\n"

-- the text of an edition in the journal was printed; or the output failed after a prefix, which was
-- reported. The publish is done either way
abbrev pub PrintsReport : List ℕ → Output → Output → Status → Type 0
PrintsReport text o e status =
    (Ends e None status × Appends o.old o.new text)
    ⊎ (ReportsLine e statuses.Done unprinted_line status × FailsToPrint text o)

-- ---- what the file contains

-- The file is as it was; or its last line was cut off, if it was not finished, and else it is as it
-- was. If cutting it back may fail, a prefix of the edition's lines may be there too.
abbrev pub IsLeftWhole : Type 0 → List ℕ → List Edit → Option ℕ → Option (List ℕ) → Type 0
IsLeftWhole CanStay content edits cut contents =
    ((cut ≡ None) × (contents ≡ Some content))
    ⊎ ((cut ≡ unfinished_line content)
    × ((contents ≡ Some (whole_bytes content))
    ⊎ (CanStay × (n : ℕ)
    × (contents ≡ Some (whole_bytes content ++ take n (appended_text content edits))))))

-- the edition is in the file: all of it, on the disk
abbrev pub HoldsEdition : List ℕ → List Edit → Option KeptFileFault → Option ℕ → FileState → Type 0
HoldsEdition content edits before cut file =
    (cut ≡ unfinished_line content) × (file ≡ ready_file (edition_text content edits) before)

-- the edition is not in the file, since the file could not be changed
abbrev pub LosesEdition : Type 0 → List ℕ → List Edit → CommandFault → Option ℕ → FileState → Type 0
LosesEdition CanStay content edits fault cut file =
    IsChangeFault fault file.fault × IsLeftWhole CanStay content edits cut file.contents

-- Edits had to be written to the file of this path as an edition, and this text printed. Which line
-- was cut off was reported first, if one was. The edition is in the file and the text was printed,
-- if it could be; or the edition is not in the file, which was reported.
pub record WritesEdition (CanStay : Type 0) (path : List ℕ) (old file : FileState)
    (input : Option (List ℕ)) (edits : List Edit) (text : List ℕ) (o e : Output)
    (status : Status) : Type 0 where
  pub cut : Option ℕ
  pub between : Option (List ℕ)
  pub failed : Bool
  pub held_back : Bool
  pub reports : ReportsCut (first_output e between failed held_back) cut
  pub ended : (PrintsReport text o (later_output e between failed) status
      × IfHeld old input (λ content. HoldsEdition content edits old.fault cut file))
      ⊎ ((fault : CommandFault) × PrintsNoneAt path fault o (later_output e between failed) status
      × IfHeld old input (λ content. LosesEdition CanStay content edits fault cut file))

-- ---- how the command ends

-- nothing was changed in the file, nothing was printed, and it was reported why
abbrev pub Refuses : CommandFault → FileState → FileState → Output → Output → Status → Type 0
Refuses fault old file o e status = (file ≡ old) × PrintsNone fault o e status

-- nothing was changed in the file, nothing was printed, and this line was reported. If there was no
-- memory for the line, that was reported
abbrev pub RefusesBy : List ℕ → FileState → FileState → Output → Output → Status → Type 0
RefusesBy line old file o e status =
    (file ≡ old) × (o.new ≡ o.old) × ReportsIfMade e statuses.Refused line status

-- edits were appended as an edition, unless there are none, or one is refused, or memory ran out.
-- Each source that one gives may be given
abbrev pub AppendsEdits : Type 0 → List ℕ → ObjectState → RegisterModel → FileState → FileState
    → Option (List ℕ) → List Edit → Output → Output → Status → Type 0
AppendsEdits CanStay path s target old file input [] o e status =
    (file ≡ old) × PrintsIfMade (no_change_text s target) o e status
AppendsEdits CanStay path s target old file input (edit ∷ edits) o e status =
    Refuses (Refused refusals.NoMemory) old file o e status
    ⊎ MatchOption (edition_refusal s (edit ∷ edits))
    (All HasLawfulSource (edit ∷ edits)
    × WritesEdition CanStay path old file input (edit ∷ edits)
    (published_text path s target (edit ∷ edits)) o e status)
    (λ refusal. Refuses (Refused refusal) old file o e status)

-- edits were appended as an edition, if a journal of this version is kept. If it is not, this was
-- reported with the path of the journal
abbrev pub AppendsIfKept : Bool → Type 0 → List ℕ → Version → ObjectState → RegisterModel
    → FileState → FileState → Option (List ℕ) → List Edit → Output → Output → Status → Type 0
AppendsIfKept true CanStay path version s target old file input edits o e status =
    AppendsEdits CanStay path s target old file input edits o e status
AppendsIfKept false CanStay path version s target old file input edits o e status =
    RefusesBy (not_kept_line path version) old file o e status

-- If these edits need sources that the version lacks, the publish is refused: one of the edits is
-- refused, or memory ran out. Otherwise the edits were appended, if the version is one that publish
-- keeps.
abbrev pub PublishesEdits : Bool → Type 0 → List ℕ → Version → ObjectState → RegisterModel
    → FileState → FileState → Option (List ℕ) → List Edit → Output → Output → Status → Type 0
PublishesEdits true CanStay path version s target old file input edits o e status =
    (refusal : Refusal) × IsNoMemoryOr (edition_refusal s edits) refusal
    × Refuses (Refused refusal) old file o e status
PublishesEdits false CanStay path version s target old file input edits o e status =
    AppendsIfKept (is_kept version) CanStay path version s target old file input edits o e status

-- the edits were published, unless the text is behind an edition, which was reported
abbrev pub PublishesUnlessBehind : Option ℕ → Type 0 → RequestModel → Version → ObjectState
    → RegisterModel → FileState → FileState → Option (List ℕ) → List Edit → Output → Output
    → Status → Type 0
PublishesUnlessBehind None CanStay request version s target old file input edits o e status =
    PublishesEdits (needs_sources version edits) CanStay request.journal version s target old file
    input edits o e status
PublishesUnlessBehind (Some edition) CanStay request version s target old file input edits o e
    status =
    RefusesBy (behind_lines request.text request.journal edition (published s) s.batches) old file
    o e
    status

-- from what an object has published to the target register: there is no plan; or the edits
-- of one were published
abbrev pub PublishesPlan : Type 0 → Version → ObjectState → RequestModel → RegisterModel
    → FileState → FileState → Option (List ℕ) → Output → Output → Status → Type 0
PublishesPlan CanStay version s request target old file input o e status =
    ((file ≡ old) × RefusesPlan s request.text target o e status)
    ⊎ ((edits : List Edit) × IsPlan s.limits target.territories (published s) edits
    × PublishesUnlessBehind (hindering_edition request s.batches edits) CanStay request version s
    target old
    file input edits o e status)

-- the edits of the plan were published, unless the text is of an edition that the journal lacks,
-- which was reported
abbrev pub PublishesUnlessLater : Option ℕ → Type 0 → Version → ObjectState → RequestModel
    → RegisterModel → FileState → FileState → Option (List ℕ) → Output → Output → Status → Type 0
PublishesUnlessLater None CanStay version s request target old file input o e status =
    PublishesPlan CanStay version s request target old file input o e status
PublishesUnlessLater (Some edition) CanStay version s request target old file input o e status =
    RefusesBy (later_lines request.text request.journal edition (length s.batches)) old file o e
    status

-- the edits of the plan were published, unless edits are pending, which was reported
abbrev pub PublishesUnlessPending : Type 0 → Version → ObjectState → List Edit → RequestModel
    → RegisterModel → FileState → FileState → Option (List ℕ) → Output → Output → Status → Type 0
PublishesUnlessPending CanStay version s [] request target old file input o e status =
    PublishesUnlessLater (later_than request.edition (length s.batches)) CanStay version s request
    target old file input o e status
PublishesUnlessPending CanStay version s (edit ∷ edits) request target old file input o e status =
    RefusesBy (pending_line (length (edit ∷ edits))) old file o e status

-- How a publish ends over a file that was `old` and is `file` then, and which a source gave. If it
-- contains no object, it is as it was. Otherwise it contains an object in a journal of some
-- version, and the edits of the plan were published, or it was reported why not.
abbrev pub EndsPublish : Type 0 → Limits → RequestModel → RegisterModel → FileState → FileState
    → Input → Output → Output → Status → Type 0
EndsPublish CanStay limits request target old file input o e status =
    ((fault : CommandFault) × (file ≡ old) × PrintsNoneAt request.journal fault o e status
    × IfHeld old input.bytes (λ content. HoldsNoObject limits content input.unread fault))
    ⊎ ((version : Version) × (s : ObjectState)
    × IfHeld old input.bytes (λ content. HoldsObject limits content version s)
    × PublishesUnlessPending CanStay version s s.pending request target old file input.bytes o e
    status)

-- ---- an edition that the file can't take

-- A source gave these bytes, of a journal with nothing pending whose version has no sources, and
-- edits of a plan need them. The rewritten journal has them as its next edition. And there are the
-- text that is printed then, and the one on a last line that was not finished.
pub record IsRewriteNeeded (limits : Limits) (request : RequestModel) (target : RegisterModel)
    (input : Option (List ℕ)) (bytes journal text : List ℕ) (cut : Option (List ℕ)) : Type 0 where
  pub read : IfSome input (λ content. bytes ≡ content)
  pub version : Version
  pub object : ObjectState
  pub holds : HoldsObject limits bytes version object
  pub pending : object.pending ≡ []
  pub edits : List Edit
  pub had : later_than request.edition (length object.batches) ≡ None
  pub plans : IsPlan object.limits target.territories (published object) edits
  pub free : hindering_edition request object.batches edits ≡ None
  pub needs : needs_sources version edits ≡ true
  pub lawful : edition_refusal object edits ≡ None
  pub sources : All HasLawfulSource edits
  pub anew : journal ≡ journal_text (with_batch object edits)
  pub printed : text ≡ published_text request.journal object target edits
  pub message : cut ≡ cut_text (unfinished_line bytes)
