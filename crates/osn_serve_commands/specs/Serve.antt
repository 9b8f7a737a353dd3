-- What the service of a command line has done when it ends, and the journal that it leaves to save.
use Rattle.std.specs.Prelude.{◌≡◌, ◌⊎◌, ◌-◌, ℕ, Bool, true, false, List, Option, Some, None, length}
use Rattle.std.specs.Prelude.{if◌then◌else◌, Result, MatchResult}
use Rattle.std.specs.Option.{option_map_or}
use Rattle.std.specs.declared.convert.Infallible.{Infallible}
use Rattle.osn_core.specs.Sequential.{ObjectState}
use Rattle.osn_register.specs.declared.limits.Limits.{Limits}
use Rattle.osn_lines.specs.Streams.{Input, Output}
use Rattle.osn_lines.specs.declared.fault.EndedEarly.{EndedEarly}
use Rattle.osn_files.specs.JournalText.{journal_text}
use Rattle.osn_files.specs.declared.fault.FileFault.{FileFault}
use Rattle.osn_service.specs.Faults.{MatchService}
use Rattle.osn_service.specs.Serves.{ServesStore}
use Rattle.osn_service.specs.declared.fault.ServiceFault.{ServiceFault}
use Rattle.osn_service.specs.declared.rules.ServeRules.{ServeRules}
use Rattle.osn_service.specs.declared.service.Served.{Served}
use Rattle.osn_report.specs.Journal.{Begins, BeginsNot}
use Rattle.osn_report.specs.Printing.{PrintsNoneAt}
use Rattle.osn_report.specs.Messages.{Ends, EndsBy, Reports}
use Rattle.osn_report.specs.declared.fault.CommandFault.TheVariants.{File, Service, RefusedLine}
use Rattle.osn_report.specs.declared.fault.CommandFault.TheVariants.{NoMemory}
use Rattle.osn_report.specs.declared.status.Status.{Status}

-- the bytes that are left of a source that may be there
abbrev pub rest_if : {S : Type 0} → (S → Option (List ℕ)) → Option S → Option (List ℕ)
rest_if remaining None = None
rest_if remaining (Some source) = remaining source

-- a source that may be there, before and after
abbrev pub input_if : {S : Type 0} → (S → Option (List ℕ)) → (S → Bool) → Option S → Option S
    → Option Input
input_if remaining has_failed None new = None
input_if remaining has_failed (Some old) new = Some (record {
  bytes = remaining old;
  rest = rest_if remaining new;
  unread_before = has_failed old;
  unread = option_map_or has_failed new false;
})

-- how the service ended. All lines were answered, and then this was done; or not all were, which
-- was reported, and the rest holds. Or the store lost a change for a reason
abbrev pub EndsServed : {F : Type 0} → Result Served (EndedEarly (ServiceFault F)) → Output
    → Status → Type 0 → Type 0 → (F → Type 0) → Type 0
EndsServed result e status Done Rest Lost = MatchService result
    (λ end. MatchResult end (λ n. Done) (λ ended. Rest × Reports e (Service ended.cause) status))
    (λ n. Rest × Reports e (RefusedLine n) status)
    (λ n why. Lost why)

-- the journal of an object, if it must be saved
abbrev pub journal_to_save : Bool → ObjectState → Option (List ℕ)
journal_to_save saves t = if saves then Some (journal_text t) else None

-- the journal of an object is left, if it must be saved; or there was no memory for it, which was
-- reported
abbrev pub LeavesJournal : Bool → ObjectState → Option (List ℕ) → Output → Status → Type 0
LeavesJournal saves t journal e status =
    ((journal ≡ journal_to_save saves t) × Ends e None status)
    ⊎ ((saves ≡ true) × (journal ≡ None) × EndsBy e NoMemory status)

-- The lines were answered from the object s, and a journal is left, if any.
pub record ServesLines (rules : ServeRules) (s : ObjectState) (saves : Bool) (i : Input)
    (o e : Output) (journal : Option (List ℕ)) (editions : ℕ) (status : Status) : Type 0 where
  pub object : ObjectState
  pub result : Result Served (EndedEarly (ServiceFault Infallible))
  pub serves : ServesStore rules s object i o result
  -- a journal is left only if all lines were answered, and no line ended the service
  pub ended : EndsServed result e status (LeavesJournal saves object journal e status)
      (journal ≡ None) (λ never. ⊥)
  -- this many editions were published
  pub published : editions ≡ length object.batches - length s.batches

-- what the service did that should begin with this journal of this path, if any. There was no
-- object, and it wrote nothing; or there was one, and it answered the lines
abbrev pub Serves : Limits → List ℕ → ServeRules → Option Input → Bool → Input → Output → Output
    → Option (List ℕ) → ℕ → Status → Type 0
Serves limits path rules initial saves i o e journal editions status =
    ((fault : FileFault) × BeginsNot limits initial fault × (journal ≡ None) × (editions ≡ 0)
    × PrintsNoneAt path (File fault) o e status)
    ⊎ ((s : ObjectState) × Begins limits initial s
    × ServesLines rules s saves i o e journal editions status)
