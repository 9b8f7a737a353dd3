-- Edits that are published as one edition: why they are not, and what the journal gains by them.
use Rattle.std.specs.Prelude.{◌≡◌, ◌⊎◌, ◌&&◌, ℕ, Bool, true, false, not, List, [], ◌∷◌, ◌++◌}
use Rattle.std.specs.Prelude.{Option, Some, None}
use Rattle.std.specs.List.{All}
use Rattle.osn_days.specs.Rules.{newest_rules}
use Rattle.osn_core.specs.Sequential.{HasLawfulSource, ObjectState, publish_refusal}
use Rattle.osn_core.specs.Sequential.{stage_refusal, with_pending}
use Rattle.osn_files.specs.JournalText.{batch_text, give_source}
use Rattle.osn_files.specs.LoadedText.{IsJournalOf}
use Rattle.osn_request.specs.Version.{has_sources}
use Rattle.osn_request.specs.declared.version.Version.{Version}
use Rattle.osn_register.specs.Refusal.{or_else}
use Rattle.osn_register.specs.declared.edit.Edit.{Edit}
use Rattle.osn_register.specs.declared.limits.Limits.{Limits}
use Rattle.osn_register.specs.declared.refusal.Refusal.{Refusal}
use Rattle.osn_register.specs.declared.refusal.Refusal.TheVariants.{NoMemory}
use Rattle.osn_serve_commands.specs.Keep.{HoldsObject, is_kept, kept_text, missing_text}

-- the first refusal, if edits are staged in turn and then published
abbrev pub edition_refusal : ObjectState → List Edit → Option Refusal
edition_refusal s [] = publish_refusal s
edition_refusal s (e ∷ es) =
    or_else (stage_refusal newest_rules s e) (edition_refusal (with_pending s e) es)

-- NoMemory, or what refuses
abbrev pub IsNoMemoryOr : Option Refusal → Refusal → Type 0
IsNoMemoryOr refused f = (f ≡ NoMemory) ⊎ (refused ≡ Some f)

-- an edit gives a source, and a journal of this version has none
abbrev pub needs_sources : Version → List Edit → Bool
needs_sources version edits = not (has_sources version) && give_source edits

-- the object with another edition, which has these edits
abbrev pub with_batch : ObjectState → List Edit → ObjectState
with_batch s edits = record s { batches = s.batches ++ edits ∷ [] }

-- what is appended to a file of these bytes: what is missing after its lines that count, then the
-- lines of the edits and that of their publish
abbrev pub appended_text : List ℕ → List Edit → List ℕ
appended_text content edits = missing_text content ++ batch_text edits

-- what the file contains then
abbrev pub edition_text : List ℕ → List Edit → List ℕ
edition_text content edits = kept_text content ++ batch_text edits

-- A file that contains an object with nothing pending, in a journal of a version that is kept, is
-- loaded, with edits that are published as one edition, as the object with that edition. The edits
-- need no sources that the version lacks, and each source is one that may be given.
unfoldable pub IsEachEditionLoaded : Type 0
IsEachEditionLoaded = (limits : Limits) (content : List ℕ) (version : Version) (s : ObjectState)
    (edits : List Edit) → HoldsObject limits content version s → is_kept version ≡ true
    → needs_sources version edits ≡ false → All HasLawfulSource edits → s.pending ≡ []
    → edition_refusal s edits ≡ None
    → IsJournalOf version limits (with_batch s edits) (edition_text content edits)
