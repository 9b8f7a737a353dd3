-- A file to which an edition was appended is loaded as the object with that edition.
use Rattle.std.proofs.Common.{◌≡◌, ◌∙◌, ℕ, true, false, List, [], ◌∷◌, ◌++◌, Option, Some, None}
use Rattle.std.proofs.Common.{refl, sym, ap, subst, append-nil, append_assoc, if◌then◌else◌}
use Rattle.std.specs.List.{All}
use Rattle.std.proofs.lemmas.List.Elements.{All-cons, All-head, All-nil, All-tail}
use Rattle.osn_days.specs.Rules.{newest_rules}
use Rattle.osn_core.specs.Sequential.{HasLawfulSource, ObjectState}
use Rattle.osn_core.specs.Sequential.{stage_refusal, with_edition, with_pending}
use Rattle.osn_request.specs.Version.{newest_version, plain_version}
use Rattle.osn_request.specs.declared.version.Version.{Version}
use Rattle.osn_request.specs.declared.version.Version.TheVariants.{First, Second, Fourth}
use Rattle.osn_files.proofs.LoadFacts.{loads_by_lines}
use Rattle.osn_files.proofs.VersionFacts.{has_own_edits, newest_edit}
use Rattle.osn_files.specs.JournalText.{batch_text, edit_data, edits_text, give_source, line_text}
use Rattle.osn_files.specs.JournalText.{publish_data}
use Rattle.osn_files.specs.LoadedText.{HasEdit, IsJournalOf}
use Rattle.osn_register.specs.Refusal.{or_else}
use Rattle.osn_register.specs.declared.edit.Edit.{Edit}
use Rattle.osn_register.specs.declared.limits.Limits.{Limits}
use Rattle.osn_register.specs.declared.refusal.Refusal.{Refusal}
use Rattle.osn_serve_commands.specs.Keep.{is_kept, kept_text}
use Rattle.osn_commands.specs.Edition.{IsEachEditionLoaded, edition_refusal, edition_text}
use Rattle.osn_commands.specs.Edition.{needs_sources, with_batch}
use Rattle.osn_commands.proofs.KeptText.{kept_loaded}

-- the object with these edits staged in turn and published
staged_all : ObjectState → List Edit → ObjectState
staged_all s [] = with_edition s
staged_all s (e ∷ es) = staged_all (with_pending s e) es

-- is the one whose next edition has what is pending and them
staged-edition : (s : ObjectState) (es : List Edit)
    → staged_all s es ≡ with_edition (record s { pending = s.pending ++ es })
unfolding staged_all
staged-edition s [] = ap (λ (p : List Edit). with_edition (record s { pending = p }))
    (sym (append-nil s.pending))
staged-edition s (e ∷ es) =
    staged-edition (with_pending s e) es
    ∙ ap (λ (p : List Edit). with_edition (record s { pending = p }))
    (append_assoc s.pending (e ∷ []) es)

-- if nothing is pending, they are the next edition
staged-alone : (s : ObjectState) (es : List Edit) → s.pending ≡ []
    → staged_all s es ≡ with_batch s es
staged-alone s es none =
    staged-edition s es
    ∙ ap (λ (p : List Edit). with_edition (record s { pending = p ++ es })) none
    ∙ ap (λ (p : List Edit). record s { batches = s.batches ++ es ∷ []; pending = p }) (sym none)

-- if there is no first refusal of two, neither applies
neither : (first second : Option Refusal) → or_else first second ≡ None
    → (first ≡ None) × (second ≡ None)
neither None second none = (refl, none)
neither (Some f) second none = absurd (cc)

-- ---- the edits that a kept journal takes

newest_all : (es : List Edit) → All (HasEdit newest_version) es
newest_all [] = All-nil (HasEdit newest_version)
newest_all (e ∷ es) = All-cons (HasEdit newest_version) e es (newest_edit e) (newest_all es)

plain_all : (limits : Limits) (es : List Edit) → give_source es ≡ false
    → All (HasEdit plain_version) es
plain_all limits es none =
    subst (λ any. All (HasEdit (if any then newest_version else plain_version)) es) none
    (has_own_edits (record { limits = limits; batches = []; pending = es }))

-- a version that is kept has edits that need no sources which it lacks
kept_all : (limits : Limits) (version : Version) (es : List Edit) → is_kept version ≡ true
    → needs_sources version es ≡ false → All (HasEdit version) es
kept_all limits First es kept none = absurd (cc)
kept_all limits Second es kept none = plain_all limits es none
kept_all limits Fourth es kept none = newest_all es

-- ---- the lines

-- the lines of edits and of their publish load what they stage and publish
edits_loaded : (version : Version) (limits : Limits) (es : List Edit) (s : ObjectState)
    (text : List ℕ) → IsJournalOf version limits s text → All (HasEdit version) es
    → All HasLawfulSource es → edition_refusal s es ≡ None
    → IsJournalOf version limits (staged_all s es) (text ++ batch_text es)
unfolding staged_all
edits_loaded version limits [] s text h has sources lawful =
    (loads_by_lines version limits s text h).publish lawful
edits_loaded version limits (e ∷ es) s text h has sources lawful =
    let line = line_text (edit_data e) in
    let rest = edits_text es in
    let publish = line_text publish_data in
    let none = neither (stage_refusal newest_rules s e) (edition_refusal (with_pending s e) es)
    lawful in
    let one = (loads_by_lines version limits s text h).edit e (All-head (HasEdit version) e es has)
    (All-head HasLawfulSource e es sources) none.0 in
    subst (IsJournalOf version limits (staged_all (with_pending s e) es))
    (append_assoc text line (rest ++ publish)
    ∙ ap (λ l. text ++ l) (sym (append_assoc line rest publish)))
    (edits_loaded version limits es (with_pending s e) (text ++ line) one
    (All-tail (HasEdit version) e es has) (All-tail HasLawfulSource e es sources) none.1)

pub each_edition_loaded : IsEachEditionLoaded
unfolding IsEachEditionLoaded
each_edition_loaded limits content version s es h kept needs sources none lawful =
    subst (λ t. IsJournalOf version limits t (edition_text content es))
    (staged-alone s es none)
    (edits_loaded version limits es s (kept_text content) (kept_loaded limits version s content h)
    (kept_all limits version es kept needs) sources lawful)
