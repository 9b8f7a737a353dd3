-- A plan from the register of an object is one from what the object has published, and a journal
-- that may be there is as the plan's contract says.
use Rattle.std.proofs.Common.{◌≡◌, ℕ, Bool, List, Option, Some, None, is_some, option_map}
use Rattle.std.proofs.Common.{refl, subst, sym}
use Rattle.osn_core.specs.Sequential.{ObjectState}
use Rattle.osn_folder.specs.Folder.{FolderModel}
use Rattle.osn_register_text.specs.Plan.{IsPlan}
use Rattle.osn_lines.specs.Streams.{Output}
use Rattle.osn_register.specs.Plain.{EntryModel}
use Rattle.osn_register.specs.declared.edit.Edit.{Edit}
use Rattle.osn_register.specs.declared.limits.Limits.{Limits}
use Rattle.osn_report.specs.Messages.{ReportsNothing}
use Rattle.osn_report.specs.declared.status.Status.{Status}
use Rattle.osn_report.specs.declared.status.Status.TheVariants as statuses
use Rattle.osn_serve_commands.specs.Serve.{input_if}
use Rattle.osn_commands.specs.HindranceCause.{ReportsHindrance}
use Rattle.osn_commands.specs.InFolder.{IsOpened, ReportsHindranceAfter, refused_if}
use Rattle.osn_commands.specs.Text.{published}

pub same_plan : (s : ObjectState) (limits : Limits) (territories target : List EntryModel)
    (made edits : List Edit) → limits ≡ s.limits → territories ≡ published s → made ≡ edits
    → IsPlan limits target territories made → IsPlan s.limits target (published s) edits
same_plan s limits territories target made edits is same all h =
    subst (λ es. IsPlan s.limits target (published s) es) all
    (subst (λ ls. IsPlan s.limits target ls made) same
    (subst (λ l. IsPlan l target territories made) is h))

module _ {S : Type 0} (remaining : S → Option (List ℕ)) (has_failed : S → Bool)
    (old new : Option S) where
  -- a source that may be there is one that is given or not
  pub is_there : is_some (input_if remaining has_failed old new) ≡ is_some old
  is_there = by old
    where
      by : (old : Option S) → is_some (input_if remaining has_failed old new) ≡ is_some old
      by None = refl
      by (Some source) = refl

  -- what it gives is what its file will
  pub opened_if : (path : List ℕ) (before after : Option FolderModel)
      → IsOpened path (option_map remaining old) before after
      → IsOpened path (option_map (λ journal. journal.bytes)
      (input_if remaining has_failed old new)) before after
  opened_if path before after h = by old h
    where
      by : (old : Option S) → IsOpened path (option_map remaining old) before after
          → IsOpened path (option_map (λ journal. journal.bytes)
          (input_if remaining has_failed old new)) before after
      by None h = h
      by (Some source) h = h

-- ---- what is written

-- after one that was, it was reported why the journal could not be kept
pub reports_hindrance : (printed reported status : Status) (refuses : Bool) (path : List ℕ)
    (there : Bool) (before after : Option FolderModel) (e : Output) → printed ≡ statuses.Done
    → ReportsHindrance path there before after e reported → status ≡ refused_if refuses reported
    → ReportsHindranceAfter printed refuses path there before after e status
reports_hindrance printed reported status refuses path there before after e is found ends =
    subst (λ p. ReportsHindranceAfter p refuses path there before after e status) (sym is)
    (reported, found, ends)

-- after a plan that was not printed nothing more is
pub reports_no_hindrance : (printed : Status) (refuses : Bool) (path : List ℕ) (there : Bool)
    (known : Option FolderModel) (e : Output) → (printed ≡ statuses.Done → ⊥) → ReportsNothing e
    → ReportsHindranceAfter printed refuses path there known known e printed
reports_no_hindrance statuses.Done refuses path there known e other nothing =
    absurd (other refl)
reports_no_hindrance statuses.Refused refuses path there known e other nothing =
    (refl, refl, nothing)
reports_no_hindrance statuses.Misused refuses path there known e other nothing =
    (refl, refl, nothing)
reports_no_hindrance statuses.ReadFault refuses path there known e other nothing =
    (refl, refl, nothing)
reports_no_hindrance statuses.WriteFault refuses path there known e other nothing =
    (refl, refl, nothing)
reports_no_hindrance statuses.Unwritten refuses path there known e other nothing =
    (refl, refl, nothing)
reports_no_hindrance statuses.NoMemory refuses path there known e other nothing =
    (refl, refl, nothing)
