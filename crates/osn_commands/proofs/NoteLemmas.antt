-- The note beside a plan is the one that its definition says, and was written.
use Rattle.std.proofs.Common.{◌≡◌, ◌==◌, ℕ, true, false, List, [], ◌∷◌, length, Option}
use Rattle.std.proofs.Common.{Some, None, ap, arith, eqb-true, inl, inr, refl, subst}
use Rattle.osn_core.specs.Sequential.{ObjectState}
use Rattle.osn_request.specs.declared.version.Version.{Version}
use Rattle.osn_lines.specs.Streams.{Output}
use Rattle.osn_register.specs.declared.edit.Edit.{Edit}
use Rattle.osn_register.specs.declared.refusal.Refusal.{Refusal}
use Rattle.osn_register.specs.declared.refusal.Refusal.TheVariants as refusals
use Rattle.osn_report.specs.Messages.{EndsBy, ReportsIfMade}
use Rattle.osn_report.specs.declared.fault.CommandFault.TheVariants as faults
use Rattle.osn_report.specs.declared.status.Status.{Status}
use Rattle.osn_report.specs.declared.status.Status.TheVariants as statuses
use Rattle.osn_serve_commands.specs.Keep.{is_kept}
use Rattle.osn_commands.specs.Edition.{IsNoMemoryOr, edition_refusal, needs_sources}
use Rattle.osn_commands.specs.Note.{IsNoteOf, ReportsNote, ReportsRefused, edits_or}
use Rattle.osn_commands.specs.Note.{note_line, refusal_or, version_note}
use Rattle.osn_commands.specs.PlanWords.{refused_edits_line}
use Rattle.osn_commands.specs.declared.note.Note.{Note}
use Rattle.osn_commands.specs.declared.note.Note.TheVariants as notes

-- ---- which note

-- nothing refuses the edits, or something does, or memory ran out
pub none_refused : (refused : Option Refusal) (other : Note) → refused ≡ None
    → IsNoteOf (refusal_or refused other) other
none_refused refused other is = inl (rw is refl)

pub some_refused : (refused : Option Refusal) (other : Note) (f : Refusal)
    → IsNoMemoryOr refused f → IsNoteOf (refusal_or refused other) (notes.Refused f)
some_refused refused other f (inl is) = inr (ap notes.Refused is)
some_refused refused other f (inr is) = inl (rw is refl)

module _ (s : ObjectState) (found : Note) where
  -- by whether there are edits
  pub without_edits : (edits : List Edit) (other : Note) → (length edits == 0) ≡ true
      → IsNoteOf other found → IsNoteOf (edits_or s edits other) found
  without_edits [] other none h = h
  without_edits (e ∷ es) other none h = absurd (omega (arith, eqb-true (length (e ∷ es)) 0 none))

  pub with_edits : (edits : List Edit) (other : Note) → (length edits == 0) ≡ false
      → IsNoteOf (refusal_or (edition_refusal s edits) other) found
      → IsNoteOf (edits_or s edits other) found
  with_edits [] other some h = absurd (cc)
  with_edits (e ∷ es) other some h = h

  -- by the version of the journal
  pub version_needs : (version : Version) (edits : List Edit) → needs_sources version edits ≡ true
      → IsNoteOf (refusal_or (edition_refusal s edits) (notes.Anew version)) found
      → IsNoteOf (version_note version s edits) found
  version_needs version edits needs h = rw needs h

  pub version_kept : (version : Version) (edits : List Edit) → needs_sources version edits ≡ false
      → is_kept version ≡ true → IsNoteOf (edits_or s edits notes.Nothing) found
      → IsNoteOf (version_note version s edits) found
  version_kept version edits needs kept h = rw (needs, kept) h

  pub version_older : (version : Version) (edits : List Edit) → needs_sources version edits ≡ false
      → is_kept version ≡ false → IsNoteOf (notes.NotKept version) found
      → IsNoteOf (version_note version s edits) found
  version_older version edits needs kept h = rw (needs, kept) h

-- ---- its line

-- that memory ran out was
reports_memory : (line : Option (List ℕ)) (e : Output) (status : Status)
    → EndsBy e faults.NoMemory status → ReportsNote line e status
reports_memory None e status h = inr h
reports_memory (Some line) e status h = inr h

-- that a publish refuses edits was, or that memory ran out
pub reports_refused : (path : List ℕ) (refusal : Refusal) (target : Note) (e : Output)
    (status : Status) → IsNoteOf target (notes.Refused refusal) → ReportsRefused refusal e status
    → ReportsNote (note_line path target) e status
reports_refused path refusals.NoMemory target e status found h =
    reports_memory (note_line path target) e status h
reports_refused path refusal target e status (inl found) h =
    subst (λ n. ReportsNote (note_line path n) e status) found (other refusal h)
  where
    other : (f : Refusal) → ReportsRefused f e status
        → ReportsNote (Some (refused_edits_line f)) e status
    other refusals.NoMemory h = inr h
    other f h = h
reports_refused path refusal target e status (inr none) h = absurd (cc)

-- a refusal other than NoMemory was
pub reports_other : (refusal : Refusal) (e : Output) (status : Status)
    → (refusal ≡ refusals.NoMemory → ⊥)
    → ReportsIfMade e statuses.Done (refused_edits_line refusal) status
    → ReportsRefused refusal e status
reports_other refusals.NoMemory e status other h = absurd (other refl)
reports_other refusal e status other h = h
