-- The journal of an object is loaded as that object, by each version that has its edits.
use Rattle.std.proofs.Common.{◌≡◌, ℕ, ◌+◌, ◌<◌, ◌≤◌, nat_lt, cond, List}
use Rattle.std.proofs.Common.{[], ◌∷◌}
use Rattle.std.proofs.Common.{◌++◌, length, Some, None, Result, Ok, refl, sym}
use Rattle.std.proofs.Common.{ap, subst}
use Rattle.std.proofs.Common.{◌∙◌, arith, append-nil, append_assoc, length-append}
use Rattle.std.specs.List.{All, sum_by}
use Rattle.std.proofs.lemmas.Bool.{lt-ltb, ne_eqb}
use Rattle.std.proofs.lemmas.List.Elements.{All-nil, All-cons, All-head, All-tail}
use Rattle.std.proofs.lemmas.List.Sums.{sum_by-append}
use Rattle.serde_json.specs.Data.{Data}
use Rattle.serde_json.specs.Written.{compact_text}
use Rattle.osn_days.specs.Rules.{Rules, newest_rules}
use Rattle.osn_lines.specs.Lines.{lines}
use Rattle.osn_register.specs.declared.edit.Edit.{Edit}
use Rattle.osn_register.specs.declared.limits.Limits.{Limits}
use Rattle.osn_register.specs.declared.refusal.Refusal.TheVariants.{NothingPending, JournalFull}
use Rattle.osn_register.specs.declared.refusal.Refusal.TheVariants.{EditionsFull}
use Rattle.osn_register.specs.Lawful.{AreLawful}
use Rattle.osn_register.specs.Plain.{EntryModel, refusal, effect, after_edit, after_edits}
use Rattle.osn_register.specs.Plain.{unless_refused}
use Rattle.osn_register.specs.Refusal.{or_else}
use Rattle.osn_core.specs.declared.command.Command.{Command}
use Rattle.osn_core.specs.declared.command.Command.TheVariants.{Stage, Publish}
use Rattle.osn_core.specs.Sequential.{ObjectState, HasLawfulSource, empty_object, joined, edits_in}
use Rattle.osn_core.specs.Sequential.{NoneEmpty, IsSound, stage_refusal, publish_refusal}
use Rattle.osn_core.specs.Sequential.{draft_territories}
use Rattle.osn_core.proofs.Batches.{joined-push}
use Rattle.osn_request.specs.Request.{object_of}
use Rattle.osn_request.specs.declared.version.Version.{Version}
use Rattle.osn_files.specs.declared.fault.LineFault.{LineFault}
use Rattle.osn_files.specs.Journal.{after_command, after_object, load}
use Rattle.osn_files.specs.Turns.{on_read, go_on, in_turn}
use Rattle.osn_files.specs.Journal as journal
use Rattle.osn_files.specs.JournalText.{line_text, edit_data, publish_data, edits_text, batch_text}
use Rattle.osn_files.specs.JournalText.{batches_text, journal_text_of}
use Rattle.osn_files.specs.LoadedText.{HasEdit, HasEdits}
use Rattle.osn_files.proofs.CommandFacts.{Says}
use Rattle.osn_files.proofs.SaysFacts.{Says-publish, Says-lawful, IsLine-head, version_of-head}

-- lines that are run after a head of a version
abbrev run : Version → ℕ → ObjectState → List (List ℕ) → Result ObjectState (ℕ × LineFault)
run version n s ls = in_turn (after_object newest_rules) n (Some version) s ls

-- a version has an edit, and its source is one that may be given
abbrev IsOwn : Version → Edit → Type 0
IsOwn version e = HasEdit version e × HasLawfulSource e

abbrev pub at : Limits → List (List Edit) → List Edit → ObjectState
at limits done pend = record { limits = limits; batches = done; pending = pend }

abbrev territories_at : Limits → List Edit → List EntryModel
territories_at limits es = after_edits newest_rules limits [] es

after_edits-append : (limits : Limits) (territories : List EntryModel) (es fs : List Edit)
    → after_edits newest_rules limits territories (es ++ fs)
    ≡ after_edits newest_rules limits (after_edits newest_rules limits territories es) fs
after_edits-append limits territories [] fs = refl
after_edits-append limits territories (e ∷ es) fs =
    after_edits-append limits (after_edit newest_rules limits territories e) es fs

after_edit-lawful : (limits : Limits) (territories : List EntryModel) (e : Edit)
    → refusal newest_rules limits territories e ≡ None
    → after_edit newest_rules limits territories e ≡ effect territories e
after_edit-lawful limits territories e none =
    ap (λ r. unless_refused r (effect territories e) territories) none

-- the first of edits that are lawful in turn are so
pub lawful_front : (p : Rules) (limits : Limits) (territories : List EntryModel) (es fs : List Edit)
    → AreLawful p limits territories (es ++ fs) → AreLawful p limits territories es
lawful_front p limits territories [] fs h = tt
lawful_front p limits territories (e ∷ es) fs h =
    (h.0, lawful_front p limits (effect territories e) es fs h.1)

-- of edits that are lawful in turn, those after the first ones are lawful once the first ones are
-- applied
pub lawful_rest : (limits : Limits) (territories : List EntryModel) (es fs : List Edit)
    → AreLawful newest_rules limits territories (es ++ fs)
    → AreLawful newest_rules limits (after_edits newest_rules limits territories es) fs
lawful_rest limits territories [] fs h = h
lawful_rest limits territories (e ∷ es) fs h =
    lawful_rest limits (after_edit newest_rules limits territories e) es fs
    (subst (λ ls. AreLawful newest_rules limits ls (es ++ fs))
    (sym (after_edit-lawful limits territories e h.0)) h.1)

-- what holds of each of some edits holds of the first ones, and of those after them
pub each_first : (P : Edit → Type 0) (es fs : List Edit) → All P (es ++ fs) → All P es
each_first P [] fs h = All-nil P
each_first P (e ∷ es) fs h =
    All-cons P e es (All-head P e (es ++ fs) h) (each_first P es fs (All-tail P e (es ++ fs) h))

pub each_after : (P : Edit → Type 0) (es fs : List Edit) → All P (es ++ fs) → All P fs
each_after P [] fs h = h
each_after P (e ∷ es) fs h = each_after P es fs (All-tail P e (es ++ fs) h)

stage_passes : (s : ObjectState) (e : Edit)
    → refusal newest_rules s.limits (draft_territories newest_rules s) e ≡ None
    → edits_in s < s.limits.edits
    → stage_refusal newest_rules s e ≡ None
stage_passes s e lawful room =
    ap (λ r. or_else r (cond (nat_lt (edits_in s) s.limits.edits) None (Some JournalFull))) lawful
    ∙ ap (λ b. cond b None (Some JournalFull)) (lt-ltb (edits_in s) s.limits.edits room)

publish_passes : (s : ObjectState) → 0 < length s.pending → length s.batches < s.limits.editions
    → publish_refusal s ≡ None
publish_passes s some room =
    ap (λ b. cond b (Some NothingPending)
    (cond (nat_lt (length s.batches) s.limits.editions) None (Some EditionsFull)))
    (ne_eqb (length s.pending) 0 (λ e. omega arith))
    ∙ ap (λ b. cond b None (Some EditionsFull)) (lt-ltb (length s.batches) s.limits.editions room)

module _ (version : Version) where
  -- one line is run
  step_says : (s : ObjectState) (d : Data) (c : Command) → Says version d c
      → on_read (object_of (compact_text d)) (after_object newest_rules version s)
      ≡ after_command newest_rules s c
  step_says s d c h =
      ap (λ r. on_read r (after_object newest_rules version s)) h.line.object
      ∙ ap (λ r. on_read r (after_command newest_rules s)) h.command

  run_line : (s u t : ObjectState) (d : Data) (c : Command) (more : List ℕ) → Says version d c
      → after_command newest_rules s c ≡ Ok u → ((m : ℕ) → run version m u (lines more) ≡ Ok t)
      → (n : ℕ) → run version n s (lines (line_text d ++ more)) ≡ Ok t
  run_line s u t d c more h one rest n =
      ap (run version n s) (h.line.first more)
      ∙ (ap (λ r. go_on n r (λ v. run version (n + 1) v (lines more))) (step_says s d c h ∙ one)
      ∙ rest (n + 1))

  -- lawful edits that there is room for are all staged
  run_edits : (limits : Limits) (done : List (List Edit)) (pend es : List Edit) (more : List ℕ)
      (t : ObjectState) → All (IsOwn version) es
      → AreLawful newest_rules limits (territories_at limits (joined done ++ pend)) es
      → edits_in (at limits done pend) + length es ≤ limits.edits
      → ((m : ℕ) → run version m (at limits done (pend ++ es)) (lines more) ≡ Ok t)
      → (n : ℕ) → run version n (at limits done pend) (lines (edits_text es ++ more)) ≡ Ok t
  run_edits limits done pend [] more t own lawful room rest n =
      ap (λ p. run version n (at limits done p) (lines more)) (sym (append-nil pend)) ∙ rest n
  run_edits limits done pend (e ∷ es) more t own lawful room rest n =
      let s = at limits done pend in
      let first = All-head (IsOwn version) e es own in
      let grown : territories_at limits (joined done ++ (pend ++ e ∷ []))
      ≡ effect (territories_at limits (joined done ++ pend)) e =
      ap (territories_at limits) (sym (append_assoc (joined done) pend (e ∷ [])))
      ∙ (after_edits-append limits [] (joined done ++ pend) (e ∷ [])
      ∙ after_edit-lawful limits (territories_at limits (joined done ++ pend)) e lawful.0) in
      let passes = stage_passes s e lawful.0 (omega (arith, room)) in
      ap (λ text. run version n s (lines text))
      (append_assoc (line_text (edit_data e)) (edits_text es) more)
      ∙ run_line s (at limits done (pend ++ e ∷ [])) t (edit_data e) (Stage e)
      (edits_text es ++ more)
      (Says-lawful version limits (territories_at limits (joined done ++ pend)) e first.0 first.1
      lawful.0)
      (ap (λ r. journal.unless_refused r (at limits done (pend ++ e ∷ []))) passes)
      (run_edits limits done (pend ++ e ∷ []) es more t (All-tail (IsOwn version) e es own)
      (subst (λ ls. AreLawful newest_rules limits ls es) (sym grown) lawful.1)
      (omega (arith, room, length-append pend (e ∷ [])))
      (λ m. ap (λ p. run version m (at limits done p) (lines more)) (append_assoc pend (e ∷ []) es)
      ∙ rest m))
      n

  -- batches of them that there is room for are all published
  run_batches : (limits : Limits) (done bs : List (List Edit)) (pend : List Edit) (more : List ℕ)
      (t : ObjectState) → All (IsOwn version) (joined bs ++ pend)
      → AreLawful newest_rules limits (territories_at limits (joined done)) (joined bs ++ pend)
      → NoneEmpty bs
      → sum_by (λ b. length b) done + sum_by (λ b. length b) bs ≤ limits.edits
      → length done + length bs ≤ limits.editions
      → ((m : ℕ) → run version m (at limits (done ++ bs) []) (lines more) ≡ Ok t)
      → (n : ℕ) → run version n (at limits done []) (lines (batches_text bs ++ more)) ≡ Ok t
  run_batches limits done [] pend more t own lawful some edits editions rest n =
      ap (λ b. run version n (at limits b []) (lines more)) (sym (append-nil done)) ∙ rest n
  run_batches limits done (b ∷ bs) pend more t own lawful some edits editions rest n =
      let s = at limits done b in
      let behind = line_text publish_data ++ (batches_text bs ++ more) in
      let regroup : (batch_text b ++ batches_text bs) ++ more ≡ edits_text b ++ behind =
      append_assoc (edits_text b ++ line_text publish_data) (batches_text bs) more
      ∙ append_assoc (edits_text b) (line_text publish_data) (batches_text bs ++ more) in
      let owned : All (IsOwn version) (b ++ (joined bs ++ pend)) =
      subst (All (IsOwn version)) (append_assoc b (joined bs) pend) own in
      let all :
      AreLawful newest_rules limits (territories_at limits (joined done))
      (b ++ (joined bs ++ pend)) =
      subst (AreLawful newest_rules limits (territories_at limits (joined done)))
      (append_assoc b (joined bs) pend) lawful in
      let first : AreLawful newest_rules limits (territories_at limits (joined done ++ [])) b =
      subst (λ es. AreLawful newest_rules limits (territories_at limits es) b)
      (sym (append-nil (joined done)))
      (lawful_front newest_rules limits (territories_at limits (joined done)) b (joined bs ++ pend)
      all) in
      let grown : territories_at limits (joined (done ++ b ∷ []))
      ≡ after_edits newest_rules limits (territories_at limits (joined done)) b =
      ap (territories_at limits) (joined-push done b)
      ∙ after_edits-append limits [] (joined done) b in
      let others : AreLawful newest_rules limits (territories_at limits (joined (done ++ b ∷ [])))
      (joined bs ++ pend) =
      subst (λ ls. AreLawful newest_rules limits ls (joined bs ++ pend)) (sym grown)
      (lawful_rest limits (territories_at limits (joined done)) b (joined bs ++ pend) all) in
      let total : sum_by (λ (c : List Edit). length c) (b ∷ bs)
      ≡ (0 + length b) + sum_by (λ (c : List Edit). length c) bs =
      sum_by-append (λ (c : List Edit). length c) (b ∷ []) bs in
      ap (λ text. run version n (at limits done []) (lines text)) regroup
      ∙ run_edits limits done [] b behind t
      (each_first (IsOwn version) b (joined bs ++ pend) owned) first (omega (arith, edits))
      (run_line s (at limits (done ++ b ∷ []) []) t publish_data Publish (batches_text bs ++ more)
      (Says-publish version)
      (ap (λ r. journal.unless_refused r (at limits (done ++ b ∷ []) []))
      (publish_passes s some.0 (omega (arith, editions))))
      (run_batches limits (done ++ b ∷ []) bs pend more t
      (each_after (IsOwn version) b (joined bs ++ pend) owned) others some.1
      (omega (arith, edits, sum_by-append (λ (c : List Edit). length c) done (b ∷ [])))
      (omega (arith, editions, length-append done (b ∷ [])))
      (λ m. ap (λ c. run version m (at limits c []) (lines more)) (append_assoc done (b ∷ []) bs)
      ∙ rest m)))
      n

  -- the law
  pub load-journal_text_of : (s : ObjectState) → IsSound newest_rules s → HasEdits version s
      → load newest_rules s.limits (lines (journal_text_of version s)) ≡ Ok s
  load-journal_text_of s h has =
      let rest = batches_text s.batches ++ edits_text s.pending in
      let own : All (IsOwn version) (joined s.batches ++ s.pending) =
      λ k d within. (has k d within, h.sources k d within) in
      ap (load newest_rules s.limits) ((IsLine-head version).first rest)
      ∙ (ap (λ r. go_on 1 (on_read r Ok)
      (λ v. in_turn (after_object newest_rules) 2 (Some v) (empty_object s.limits) (lines rest)))
      (version_of-head version)
      ∙ run_batches s.limits [] s.batches s.pending (edits_text s.pending) s own h.lawful
      h.none_empty
      (omega (arith, h.edits)) (omega (arith, h.editions))
      (λ m. ap (λ text. run version m (at s.limits s.batches []) (lines text))
      (sym (append-nil (edits_text s.pending)))
      ∙ run_edits s.limits s.batches [] s.pending [] s
      (each_after (IsOwn version) (joined s.batches) s.pending own)
      (subst (λ es. AreLawful newest_rules s.limits (territories_at s.limits es) s.pending)
      (sym (append-nil (joined s.batches)))
      (lawful_rest s.limits [] (joined s.batches) s.pending h.lawful))
      (omega (arith, h.edits))
      (λ k. refl) m)
      2)
