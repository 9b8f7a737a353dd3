-- A publish did what its contract says, by whether there are edits and whether some are pending.
use Rattle.std.proofs.Common.{◌≡◌, ◌==◌, ℕ, Bool, true, false, List, [], ◌∷◌, length}
use Rattle.std.proofs.Common.{Option, Some, None, inl, inr, refl, subst, arith}
use Rattle.std.proofs.Common.{eqb-true}
use Rattle.std.specs.List.{All}
use Rattle.osn_core.specs.Sequential.{HasLawfulSource, ObjectState}
use Rattle.osn_request.specs.declared.version.Version.{Version}
use Rattle.osn_journal.specs.KeptJournal.{FileState}
use Rattle.osn_lines.specs.Streams.{Output}
use Rattle.osn_register_text.specs.Fault.{IsFault}
use Rattle.osn_register_text.specs.declared.plan_fault.PlanFault.{PlanFault}
use Rattle.osn_register.specs.Plain.{EntryModel, RegisterModel}
use Rattle.osn_register.specs.declared.edit.Edit.{Edit}
use Rattle.osn_register.specs.declared.limits.Limits.{Limits}
use Rattle.osn_register.specs.declared.refusal.Refusal.{Refusal}
use Rattle.osn_report.specs.Printing.{PrintsIfMade}
use Rattle.osn_report.specs.declared.fault.CommandFault.TheVariants.{Refused}
use Rattle.osn_report.specs.declared.status.Status.{Status}
use Rattle.osn_serve_commands.specs.Keep.{is_kept}
use Rattle.osn_commands.specs.Edition.{IsNoMemoryOr, edition_refusal}
use Rattle.osn_commands.specs.PlanWords.{pending_line}
use Rattle.osn_commands.specs.Publish.{AppendsEdits, AppendsIfKept, PublishesEdits}
use Rattle.osn_commands.specs.Publish.{PublishesPlan, PublishesUnlessLater}
use Rattle.osn_commands.specs.Publish.{PublishesUnlessPending}
use Rattle.osn_commands.specs.Publish.{Refuses, RefusesBy, WritesEdition, published_text}
use Rattle.osn_commands.specs.Publish.{no_change_text}
use Rattle.osn_commands.specs.Since.{RequestModel, later_lines, later_than}
use Rattle.osn_commands.specs.Text.{published}

module _ (Stays : Type 0) (journal : List ℕ) (s : ObjectState) (target : RegisterModel)
    (old file : FileState) (input : Option (List ℕ)) (o e : Output) (status : Status) where
  -- there are no edits
  pub nothing_published : (edits : List Edit) → (length edits == 0) ≡ true → file ≡ old
      → PrintsIfMade (no_change_text s target) o e status
      → AppendsEdits Stays journal s target old file input edits o e status
  nothing_published [] none same h = (same, h)
  nothing_published (edit ∷ edits) none same h =
      absurd (omega (arith, eqb-true (length (edit ∷ edits)) 0 none))

  -- the edits had to be written
  pub edition_written : (edits : List Edit) → (length edits == 0) ≡ false
      → edition_refusal s edits ≡ None → All HasLawfulSource edits
      → WritesEdition Stays journal old file input edits (published_text journal s target edits) o e
      status
      → AppendsEdits Stays journal s target old file input edits o e status
  edition_written [] some lawful sources h = absurd (cc)
  edition_written (edit ∷ edits) some lawful sources h = inr (rw lawful (sources, h))

  -- edits are refused, or memory ran out
  pub edition_refused : (edits : List Edit) (f : Refusal) → (length edits == 0) ≡ false
      → IsNoMemoryOr (edition_refusal s edits) f → Refuses (Refused f) old file o e status
      → AppendsEdits Stays journal s target old file input edits o e status
  edition_refused [] f some why h = absurd (cc)
  edition_refused (edit ∷ edits) f some (inl none) h =
      inl (subst (λ f. Refuses (Refused f) old file o e status) none h)
  edition_refused (edit ∷ edits) f some (inr refused) h = inr (rw refused h)

  module _ (version : Version) where
    -- the edits need sources that it lacks, and one is refused; or they need none
    pub anew_refused : (needs : Bool) → needs ≡ true → (edits : List Edit) (f : Refusal)
        → IsNoMemoryOr (edition_refusal s edits) f → Refuses (Refused f) old file o e status
        → PublishesEdits needs Stays journal version s target old file input edits o e status
    anew_refused needs is edits f why h = rw is (f, why, h)

    pub none_needed : (needs : Bool) → needs ≡ false → (edits : List Edit)
        → AppendsIfKept (is_kept version) Stays journal version s target old file input edits o e
        status
        → PublishesEdits needs Stays journal version s target old file input edits o e status
    none_needed needs is edits h = rw is h

module _ (Stays : Type 0) (request : RequestModel) (version : Version) (s : ObjectState)
    (target : RegisterModel) (old file : FileState) (input : Option (List ℕ)) (o e : Output)
    (status : Status) where
  -- nothing is pending
  nothing_pending : (pending : List Edit) → (length pending == 0) ≡ true
      → PublishesUnlessLater (later_than request.edition (length s.batches)) Stays version s request
      target old file input o e status
      → PublishesUnlessPending Stays version s pending request target old file input o e status
  nothing_pending [] none h = h
  nothing_pending (edit ∷ edits) none h =
      absurd (omega (arith, eqb-true (length (edit ∷ edits)) 0 none))

  -- nor is the text of a later edition
  pub planned : (pending : List Edit) → (length pending == 0) ≡ true
      → later_than request.edition (length s.batches) ≡ None
      → PublishesPlan Stays version s request target old file input o e status
      → PublishesUnlessPending Stays version s pending request target old file input o e status
  planned pending none had h = nothing_pending pending none (rw had h)

  -- the text is of a later edition
  pub reports_later : (pending : List Edit) (edition : ℕ) → (length pending == 0) ≡ true
      → later_than request.edition (length s.batches) ≡ Some edition
      → RefusesBy (later_lines request.text request.journal edition (length s.batches)) old file o e
      status
      → PublishesUnlessPending Stays version s pending request target old file input o e status
  reports_later pending edition none late h = nothing_pending pending none (rw late h)

  -- some edits are
  pub reports_pending : (pending : List Edit) → (length pending == 0) ≡ false
      → RefusesBy (pending_line (length pending)) old file o e status
      → PublishesUnlessPending Stays version s pending request target old file input o e status
  reports_pending [] some h = absurd (cc)
  reports_pending (edit ∷ edits) some h = h

-- there are no pending edits, if their number is 0
pub none_pending : (pending : List Edit) → (length pending == 0) ≡ true → pending ≡ []
none_pending [] none = refl
none_pending (edit ∷ edits) none =
    absurd (omega (arith, eqb-true (length (edit ∷ edits)) 0 none))

-- there is no plan from the register of an object, and so none from what it has published
pub same_fault : (s : ObjectState) (limits : Limits) (territories target : List EntryModel)
    (fault : PlanFault) → limits ≡ s.limits → territories ≡ published s
    → IsFault limits target territories fault → IsFault s.limits target (published s) fault
same_fault s limits territories target fault is same h =
    subst (λ ls. IsFault s.limits target ls fault) same
    (subst (λ l. IsFault l target territories fault) is h)
