-- The note on standard error beside a plan: what a publish of its edits refuses, or does first.
use Rattle.std.specs.Prelude.{◌≡◌, ◌⊎◌, ℕ, Bool, true, false, List, [], ◌∷◌, length}
use Rattle.std.specs.Prelude.{Option, Some, None, if◌then◌else◌}
use Rattle.osn_core.specs.Sequential.{ObjectState}
use Rattle.osn_request.specs.declared.version.Version.{Version}
use Rattle.osn_lines.specs.Streams.{Output}
use Rattle.osn_register.specs.declared.edit.Edit.{Edit}
use Rattle.osn_register.specs.declared.refusal.Refusal.{Refusal}
use Rattle.osn_register.specs.declared.refusal.Refusal.TheVariants as refusals
use Rattle.osn_report.specs.Messages.{Ends, EndsBy, ReportsIfMade}
use Rattle.osn_report.specs.declared.fault.CommandFault.TheVariants as faults
use Rattle.osn_report.specs.declared.status.Status.{Status}
use Rattle.osn_report.specs.declared.status.Status.TheVariants as statuses
use Rattle.osn_serve_commands.specs.Keep.{is_kept}
use Rattle.osn_commands.specs.Edition.{edition_refusal, needs_sources}
use Rattle.osn_commands.specs.PlanWords.{anew_line, new_line, not_kept_line, pending_line}
use Rattle.osn_commands.specs.PlanWords.{refused_edits_line}
use Rattle.osn_commands.specs.declared.note.Note.{Note}
use Rattle.osn_commands.specs.declared.note.Note.TheVariants as notes

-- ---- which note

-- the note that a publish refuses edits by this refusal, or else another note
abbrev pub refusal_or : Option Refusal → Note → Note
refusal_or None other = other
refusal_or (Some refusal) other = notes.Refused refusal

-- the note on edits, if there are some, that a publish refuses them, or else another note
abbrev pub edits_or : ObjectState → List Edit → Note → Note
edits_or s [] other = other
edits_or s (e ∷ es) other = refusal_or (edition_refusal s (e ∷ es)) other

-- the note on edits for a journal of this version
abbrev pub version_note : Version → ObjectState → List Edit → Note
version_note version s edits =
    if needs_sources version edits
    then refusal_or (edition_refusal s edits) (notes.Anew version)
    else (if is_kept version then edits_or s edits notes.Nothing else notes.NotKept version)

-- the note on edits for a journal with nothing pending, which is there or not
abbrev pub edits_note : Bool → Version → ObjectState → List Edit → Note
edits_note false version s edits = edits_or s edits notes.New
edits_note true version s edits = version_note version s edits

-- the note that these edits are pending, or else another note
abbrev pub pending_or : List Edit → Note → Note
pending_or [] other = other
pending_or (e ∷ es) other = notes.Pending (length (e ∷ es))

-- the note on edits for the journal of this version that makes an object, and is there or not
abbrev pub note_of : Bool → Version → ObjectState → List Edit → Note
note_of is_there version s edits = pending_or s.pending (edits_note is_there version s edits)

-- a note was found; or memory ran out
abbrev pub IsNoteOf : Note → Note → Type 0
IsNoteOf expected note = (note ≡ expected) ⊎ (note ≡ notes.Refused refusals.NoMemory)

-- ---- its line

-- the line of a note on the journal of this path, if there is one
abbrev pub note_line : List ℕ → Note → Option (List ℕ)
note_line path notes.Nothing = None
note_line path (notes.Pending edits) = Some (pending_line edits)
note_line path notes.New = Some (new_line path)
note_line path (notes.Refused refusal) = Some (refused_edits_line refusal)
note_line path (notes.Anew version) = Some (anew_line version)
note_line path (notes.NotKept version) = Some (not_kept_line path version)

-- the line was written, if there is one; or it was reported that memory ran out
abbrev pub ReportsNote : Option (List ℕ) → Output → Status → Type 0
ReportsNote None e status = Ends e None status ⊎ EndsBy e faults.NoMemory status
ReportsNote (Some line) e status = ReportsIfMade e statuses.Done line status

-- it was reported that a publish refuses edits, or that memory ran out
abbrev pub ReportsRefused : Refusal → Output → Status → Type 0
ReportsRefused refusals.NoMemory e status = EndsBy e faults.NoMemory status
ReportsRefused refusal e status =
    ReportsIfMade e statuses.Done (refused_edits_line refusal) status
