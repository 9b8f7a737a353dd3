-- What a change makes of an object, of its journal, and of the edits that a version is to have.
use Rattle.std.proofs.Common.{◌≡◌, ◌∙◌, ℕ, List, [], ◌∷◌, ◌++◌, length, None, sym, subst}
use Rattle.std.proofs.Common.{append-nil, append_assoc}
use Rattle.std.proofs.Math.Seq.{take-append_seam, drop-append_seam}
use Rattle.std.proofs.lemmas.List.Elements.{All-head, All-take, All-drop}
use Rattle.std.specs.List.{All}
use Rattle.osn_register.specs.declared.edit.Edit.{Edit}
use Rattle.osn_register.specs.declared.limits.Limits.{Limits}
use Rattle.osn_core.proofs.Batches.{joined-push}
use Rattle.osn_core.specs.Sequential.{ObjectState, joined, with_pending}
use Rattle.osn_request.specs.declared.version.Version.{Version}
use Rattle.osn_files.specs.JournalText.{journal_text_of}
use Rattle.osn_files.specs.LoadedText.{HasEdit, HasEdits, IsJournalOf}
use Rattle.osn_files.proofs.LoadFacts.{loads_by_lines}
use Rattle.osn_service.specs.Change.{change_refusal, changed}
use Rattle.osn_service.specs.declared.store.Change.{Change}
use Rattle.osn_service.specs.declared.store.Change.TheVariants.{Stage, Publish}
use Rattle.osn_journal.specs.ChangeInside.{change_line, GivesLawful}
use Rattle.osn_journal.proofs.JournalLemmas.{grows_by_lines}

-- the journal grows by the line of a change
pub grows_by_line : (version : Version) (s : ObjectState) (change : Change)
    → journal_text_of version (changed s change)
    ≡ journal_text_of version s ++ change_line change
grows_by_line version s (Stage e) = (grows_by_lines version s).edit e
grows_by_line version s Publish = (grows_by_lines version s).publish

-- the edits with one more at their end
staged : (version : Version) (s : ObjectState) (e : Edit) → HasEdits version (with_pending s e)
    → All (HasEdit version) ((joined s.batches ++ s.pending) ++ e ∷ [])
staged version s e h =
    subst (All (HasEdit version)) (sym (append_assoc (joined s.batches) s.pending (e ∷ []))) h

-- a version that has the edits of an object has those that it had before a change
pub HasEdits-before : (version : Version) (s : ObjectState) (change : Change)
    → HasEdits version (changed s change) → HasEdits version s
HasEdits-before version s (Stage e) h =
    let all = joined s.batches ++ s.pending in
    subst (All (HasEdit version)) (take-append_seam all (e ∷ []))
    (All-take (HasEdit version) (length all) (all ++ e ∷ []) (staged version s e h))
HasEdits-before version s Publish h =
    subst (All (HasEdit version)) (append-nil _ ∙ joined-push s.batches s.pending) h

-- a version that has the edits of an object has the edit that was staged last
HasEdit-last : (version : Version) (s : ObjectState) (e : Edit)
    → HasEdits version (with_pending s e) → HasEdit version e
HasEdit-last version s e h =
    let all = joined s.batches ++ s.pending in
    All-head (HasEdit version) e []
    (subst (All (HasEdit version)) (drop-append_seam all (e ∷ []))
    (All-drop (HasEdit version) (length all) (all ++ e ∷ []) (staged version s e h)))

-- a text that is loaded as an object is loaded with a change that was allowed, by the line of the
-- change
pub loads_by_line : (version : Version) (limits : Limits) (s : ObjectState) (change : Change)
    (text : List ℕ) → change_refusal s change ≡ None → GivesLawful change
    → HasEdits version (changed s change) → IsJournalOf version limits s text
    → IsJournalOf version limits (changed s change) (text ++ change_line change)
loads_by_line version limits s (Stage e) text lawful source has h =
    (loads_by_lines version limits s text h).edit e (HasEdit-last version s e has) source lawful
loads_by_line version limits s Publish text lawful source has h =
    (loads_by_lines version limits s text h).publish lawful
