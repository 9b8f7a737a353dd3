-- The draft of an object: what refuses an edit or an edition of it, what it is with one edit more,
-- and once the pending ones are published.
use Rattle.std.proofs.Common.{◌≡◌, ◌+◌, ◌==◌, [], ◌∷◌, ◌++◌, length, Option, Some, None, is_some}
use Rattle.std.proofs.Common.{cond, nat_lt, refl, Bool, true, false, ◌<◌}
use Rattle.std.proofs.Common.{sym, ap, ◌∙◌, List, arith, append_assoc, append-nil, length-append}
use Rattle.std.proofs.lemmas.Bool.{false≢true}
use Rattle.std.proofs.lemmas.Bool.Decides.{nat_tests}
use Rattle.std.proofs.lemmas.List.Sums.{sum_by-append}
use Rattle.osn_days.specs.Rules.{Rules, newest_rules}
use Rattle.osn_register.specs.declared.edit.Edit.{Edit}
use Rattle.osn_register.specs.declared.refusal.Refusal.{Refusal}
use Rattle.osn_register.specs.declared.refusal.Refusal.TheVariants.{NothingPending, JournalFull}
use Rattle.osn_register.specs.declared.refusal.Refusal.TheVariants.{EditionsFull}
use Rattle.osn_register.specs.Plain.{after_edits, effect, refusal}
use Rattle.osn_register.specs.Refusal.{or_else}
use Rattle.osn_core.specs.Sequential.{ObjectState, joined, territories_of, draft_territories}
use Rattle.osn_core.specs.Sequential.{edits_in, with_edition, with_pending, stage_refusal}
use Rattle.osn_core.specs.Sequential.{publish_refusal}
use Rattle.osn_core.specs.Draft.{DraftState, object_of, IsDraftOf, edit_refusal, edition_refusal}
use Rattle.osn_core.specs.Draft.{draft_with_edit, draft_with_edition}
use Rattle.osn_core.proofs.Batches.{joined-push}
use Rattle.osn_core.proofs.Lawful.{after_edits-append, after_edit-lawful}

test_passed : (b : Bool) (f : Refusal) → cond b None (Some f) ≡ None → b ≡ true
test_passed true f h = refl
test_passed false f h = absurd (false≢true (sym (ap is_some h)))

test_failed : (b : Bool) (f : Refusal) (r : Option Refusal) → cond b (Some f) r ≡ None →
    (b ≡ false) × (r ≡ None)
test_failed true f r h = absurd (false≢true (sym (ap is_some h)))
test_failed false f r h = (refl, h)

pub or_else-none : (a b : Option Refusal) → or_else a b ≡ None → (a ≡ None) × (b ≡ None)
or_else-none None b h = (refl, h)
or_else-none (Some f) b h = absurd (false≢true (sym (ap is_some h)))

-- an edit that may be staged is lawful in it
pub lawful_in_draft : (p : Rules) (s : ObjectState) (e : Edit) → stage_refusal p s e ≡ None →
    refusal p s.limits (draft_territories p s) e ≡ None
lawful_in_draft p s e none = (or_else-none (refusal p s.limits (draft_territories p s) e) _ none).0

-- the draft with one more edit is that of the object with the edit
pub draft_with : (p : Rules) (s : ObjectState) (e : Edit) → stage_refusal p s e ≡ None →
    effect (draft_territories p s) e ≡ draft_territories p (with_pending s e)
draft_with p s e none =
    sym (after_edit-lawful p s.limits (draft_territories p s) e (lawful_in_draft p s e none))
    ∙ sym (after_edits-append p s.limits [] (joined s.batches ++ s.pending) (e ∷ []))
    ∙ ap (after_edits p s.limits []) (append_assoc (joined s.batches) s.pending (e ∷ []))

pub edits_with : (s : ObjectState) (e : Edit) → edits_in (with_pending s e) ≡ edits_in s + 1
edits_with s e = omega (arith, length-append s.pending (e ∷ []))

-- the register of the draft is that of the next edition
pub draft_register : (p : Rules) (s : ObjectState) →
    draft_territories p s ≡ territories_of p s.limits (s.batches ++ s.pending ∷ [])
draft_register p s = ap (λ es. after_edits p s.limits [] es) (sym (joined-push s.batches s.pending))

-- once the next edition is published, the register of the draft is still that of all edits
pub draft_published : (p : Rules) (s : ObjectState) →
    draft_territories p s ≡ draft_territories p (with_edition s)
draft_published p s = draft_register p s
    ∙ ap (λ es. after_edits p s.limits [] es)
    (sym (append-nil (joined (s.batches ++ s.pending ∷ []))))

pub edits_published : (s : ObjectState) → edits_in s ≡ edits_in (with_edition s)
edits_published s =
    omega (arith, sum_by-append (λ (b : List Edit). length b) s.batches (s.pending ∷ []))

-- an edit is refused by the draft as by the object
pub edit_refused : (d : DraftState) (bs : List (List Edit)) (e : Edit) → IsDraftOf d bs →
    edit_refusal d e ≡ stage_refusal newest_rules (object_of d bs) e
edit_refused d bs e h =
    let limits = d.register.limits in
    ap (λ ls. or_else (refusal newest_rules limits ls e)
    (cond (nat_lt d.edits limits.edits) None (Some JournalFull))) h.territories
    ∙ ap (λ n. or_else (refusal newest_rules limits
    (draft_territories newest_rules (object_of d bs)) e)
    (cond (nat_lt n limits.edits) None (Some JournalFull))) h.edits

-- an edition is refused by the draft as by the object
pub edition_refused : (d : DraftState) (bs : List (List Edit)) → IsDraftOf d bs →
    edition_refusal d ≡ publish_refusal (object_of d bs)
edition_refused d bs h = ap (λ n. cond (length d.pending == 0) (Some NothingPending)
    (cond (nat_lt n d.register.limits.editions) None (Some EditionsFull))) h.editions

-- an edit that is accepted leaves the edits within their limit
pub has_room : (d : DraftState) (e : Edit) → edit_refusal d e ≡ None →
    d.edits < d.register.limits.edits
has_room d e none =
    let limits = d.register.limits in
    let allowed = or_else-none (refusal newest_rules limits d.register.territories e)
    (cond (nat_lt d.edits limits.edits) None (Some JournalFull)) none in
    let room : nat_lt d.edits limits.edits ≡ true = test_passed _ _ allowed.1 in
    grind (arith, nat_tests)

-- an edition that is let through has edits, and leaves the editions within their limit
pub has_edits : (d : DraftState) → edition_refusal d ≡ None →
    (0 < length d.pending) × (d.editions < d.register.limits.editions)
has_edits d none =
    let limits = d.register.limits in
    let allowed = test_failed (length d.pending == 0) NothingPending
    (cond (nat_lt d.editions limits.editions) None (Some EditionsFull)) none in
    let room : nat_lt d.editions limits.editions ≡ true = test_passed _ _ allowed.1 in
    (grind (arith, nat_tests), grind (arith, nat_tests))

-- the draft with an edit is that of the object with the edit
pub edit_staged : (d : DraftState) (bs : List (List Edit)) (e : Edit) → IsDraftOf d bs →
    edit_refusal d e ≡ None → IsDraftOf (draft_with_edit d e) bs
edit_staged d bs e h lawful =
    let s = object_of d bs in
    record {
      territories = ap (λ ls. effect ls e) h.territories
          ∙ draft_with newest_rules s e (sym (edit_refused d bs e h) ∙ lawful);
      edits = omega (arith, h.edits, edits_with s e);
      editions = h.editions;
    }

-- the draft with an edition is that of the object with the edition
pub edition_made : (d : DraftState) (bs : List (List Edit)) → IsDraftOf d bs →
    IsDraftOf (draft_with_edition d) (bs ++ d.pending ∷ [])
edition_made d bs h =
    let s = object_of d bs in
    record {
      territories = h.territories ∙ draft_published newest_rules s;
      edits = h.edits ∙ edits_published s;
      editions = omega (arith, h.editions, length-append bs (d.pending ∷ []));
    }
