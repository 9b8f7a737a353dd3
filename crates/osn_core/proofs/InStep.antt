-- How two registers still keep the object's state after an edit is staged, published or taken in.
use Rattle.std.proofs.Common.{◌≡◌, ℕ, ◌+◌, ◌-◌, ◌<◌, ◌≤◌, inl, inr, List, [], ◌∷◌, ◌++◌, length}
use Rattle.std.proofs.Common.{get_or, take, None, refl, sym, ap, subst, ◌∙◌, arith, append_assoc}
use Rattle.std.proofs.Common.{append-nil, length-append}
use Rattle.std.specs.List.{All}
use Rattle.std.proofs.lemmas.List.{get_or-append-add}
use Rattle.std.proofs.lemmas.List.Elements.{All-push}
use Rattle.osn_days.specs.Rules.{newest_rules}
use Rattle.osn_register.specs.declared.limits.Limits.{Limits}
use Rattle.osn_register.specs.declared.edit.Edit.{Edit}
use Rattle.osn_register.specs.Lawful.{AreLawful}
use Rattle.osn_register.specs.Plain.{EntryModel, RegisterModel, refusal, effect, after_edits}
use Rattle.osn_core.specs.Sequential.{joined, last_batch, without_last, HasLawfulSource}
use Rattle.osn_core.specs.Draft.{DraftState, object_of, edit_refusal, edition_refusal}
use Rattle.osn_core.specs.Draft.{draft_with_edit, draft_with_edition}
use Rattle.osn_core.specs.LiveAndStandbyInside.{AreInStep}
use Rattle.osn_core.proofs.Batches.{joined-push, last_batch-push, NoneEmpty-push, without_none}
use Rattle.osn_core.proofs.Batches.{without_part, split_last}
use Rattle.osn_core.proofs.DraftFacts.{lawful_in_draft, edits_with, edits_published, edit_refused}
use Rattle.osn_core.proofs.DraftFacts.{has_room, has_edits, edit_staged, edition_made}
use Rattle.osn_core.proofs.Lawful.{AreLawful-push, AreLawful-front, lawful_at, applied_at}

abbrev register_of : Limits → List Edit → RegisterModel
register_of limits es =
    record { limits = limits; territories = after_edits newest_rules limits [] es }

-- if any edit is pending, the standby lacks none
pub none_lacked : (d : DraftState) (bs : List (List Edit)) (lag : ℕ) (other : RegisterModel) →
    AreInStep d bs lag other → 0 < length d.pending → lag ≡ 0
none_lacked d bs lag other h some = elim h.caught_up
    [ inl nothing ↦ absurd (omega (arith, some, ap length nothing)) | inr all ↦ all ]

-- an edit is staged in a standby that lacks nothing
pub one_staged : (d : DraftState) (bs : List (List Edit)) (lag : ℕ) (other : RegisterModel)
    (e : Edit) → AreInStep d bs lag other → lag ≡ 0 → edit_refusal d e ≡ None → HasLawfulSource e →
    AreInStep (draft_with_edit d e) bs lag other
one_staged d bs lag other e h none lawful source =
    let s = object_of d bs in
    let limits = d.register.limits in
    let allowed = lawful_in_draft newest_rules s e (sym (edit_refused d bs e h.draft) ∙ lawful) in
    let regroup : joined bs ++ (d.pending ++ e ∷ []) ≡ (joined bs ++ d.pending) ++ e ∷ [] =
    sym (append_assoc (joined bs) d.pending (e ∷ [])) in
    record {
      draft = edit_staged d bs e h.draft lawful;
      other_is = h.other_is;
      lag_is_of_last = h.lag_is_of_last;
      caught_up = inr none;
      sound = record {
        lawful = subst (AreLawful newest_rules limits []) (sym regroup)
            (AreLawful-push newest_rules limits [] (joined bs ++ d.pending) e h.sound.lawful
            allowed);
        none_empty = h.sound.none_empty;
        edits = omega (arith, has_room d e lawful, h.draft.edits, edits_with s e);
        editions = h.sound.editions;
        sources = subst (All HasLawfulSource) (sym regroup)
            (All-push HasLawfulSource (joined bs ++ d.pending) e h.sound.sources source);
      };
    }

-- the draft's register becomes the live one, and the other one lacks the batch
pub one_published : (d : DraftState) (bs : List (List Edit)) (lag : ℕ) (other : RegisterModel) →
    AreInStep d bs lag other → edition_refusal d ≡ None →
    AreInStep (draft_with_edition d) (bs ++ d.pending ∷ []) (length d.pending) other
one_published d bs lag other h lawful =
    let s = object_of d bs in
    let limits = d.register.limits in
    let room = has_edits d lawful in
    let none = none_lacked d bs lag other h room.0 in
    let pushed : joined (bs ++ d.pending ∷ []) ≡ joined bs ++ d.pending =
    joined-push bs d.pending in
    let last : last_batch (bs ++ d.pending ∷ []) ≡ d.pending = last_batch-push bs d.pending in
    record {
      draft = edition_made d bs h.draft;
      other_is = h.other_is
          ∙ ap (register_of limits) (without_none (joined bs) lag none
          ∙ sym (without_part (joined bs) d.pending)
          ∙ ap (without_last (length d.pending)) (sym pushed));
      lag_is_of_last = omega (arith, ap length last);
      caught_up = inl refl;
      sound = record {
        lawful = subst (AreLawful newest_rules limits []) (sym (append-nil _ ∙ pushed))
            h.sound.lawful;
        none_empty = NoneEmpty-push bs d.pending h.sound.none_empty room.0;
        edits = omega (arith, h.sound.edits, edits_published s);
        editions = omega (arith, room.1, h.draft.editions, length-append bs (d.pending ∷ []));
        sources = subst (All HasLawfulSource) (sym (append-nil _ ∙ pushed)) h.sound.sources;
      };
    }

-- the next edit that the standby lacks, in its place among the published ones
pub record IsNext (bs : List (List Edit)) (lag : ℕ) (e : Edit) : Type 0 where
  pub within : length (joined bs) - lag < length (joined bs)
  pub is : get_or (joined bs) (length (joined bs) - lag) e ≡ e
  pub more : length (joined bs) - lag + 1 ≡ length (joined bs) - (lag - 1)

-- the next edit that the standby lacks is in its place in the last batch
next_of_last : (all front last : List Edit) (lag : ℕ) (e : Edit) → all ≡ front ++ last → 0 < lag →
    lag ≤ length last → e ≡ get_or last (length last - lag) e →
    (length all - lag < length all) × (get_or all (length all - lag) e ≡ e)
    × (length all - lag + 1 ≡ length all - (lag - 1))
next_of_last all front last lag e is some within at =
    let count : length all ≡ length front + length last =
    ap length is ∙ length-append front last in
    let place : length all - lag ≡ length front + (length last - lag) = omega (arith, count) in (
      omega (arith, count),
      ap (λ es. get_or es (length all - lag) e) is
          ∙ ap (λ i. get_or (front ++ last) i e) place
          ∙ get_or-append-add front last (length last - lag) e
          ∙ sym at,
      omega (arith, count),
    )

-- the next edit that the standby lacks, as it is read in a slice of the batches
pub next_read : (bs cs : List (List Edit)) (lag : ℕ) (e : Edit) → 0 < lag →
    lag ≤ length (last_batch bs) → cs ≡ bs →
    e ≡ get_or (last_batch cs) (length (last_batch cs) - lag) e → IsNext bs lag e
next_read [] cs lag e some within are at = absurd (omega (arith, some, within))
next_read (b ∷ bs) cs lag e some within are at =
    let all = b ∷ bs in
    let there = next_of_last (joined all) (joined (take (length bs) all)) (last_batch all) lag e
    (split_last b bs) some within
    (subst (λ (cs : List (List Edit)). e ≡ get_or (last_batch cs) (length (last_batch cs) - lag) e)
    are at) in
    record { within = there.0; is = there.1; more = there.2 }

published_lawful : (d : DraftState) (bs : List (List Edit)) (lag : ℕ) (other : RegisterModel) →
    AreInStep d bs lag other → AreLawful newest_rules d.register.limits [] (joined bs)
published_lawful d bs lag other h =
    AreLawful-front newest_rules d.register.limits [] (joined bs) d.pending h.sound.lawful

-- the next edit is lawful in the standby
pub lawful_next : (d : DraftState) (bs : List (List Edit)) (lag : ℕ) (other : RegisterModel)
    (e : Edit) → AreInStep d bs lag other → IsNext bs lag e →
    refusal newest_rules other.limits other.territories e ≡ None
lawful_next d bs lag other e h at =
    ap (λ (r : RegisterModel). refusal newest_rules r.limits r.territories e) h.other_is
    ∙ lawful_at newest_rules d.register.limits [] (joined bs) (length (joined bs) - lag) e at.within
    at.is (published_lawful d bs lag other h)

-- the standby has taken in the next edit
pub one_absorbed : (d : DraftState) (bs : List (List Edit)) (lag : ℕ) (other after : RegisterModel)
    (e : Edit) → AreInStep d bs lag other → IsNext bs lag e →
    after ≡ record other { territories = effect other.territories e } →
    AreInStep d bs (lag - 1) after
one_absorbed d bs lag other after e h at is =
    let limits = d.register.limits in
    record {
      draft = h.draft;
      other_is =
          is
          ∙ ap (λ (r : RegisterModel). record r { territories = effect r.territories e }) h.other_is
          ∙ ap (λ (ls : List EntryModel). record { limits = limits; territories = ls })
          (applied_at newest_rules limits [] (joined bs) (length (joined bs) - lag) e at.within
          at.is (published_lawful d bs lag other h)
          ∙ ap (λ n. after_edits newest_rules limits [] (take n (joined bs))) at.more);
      lag_is_of_last = omega (arith, h.lag_is_of_last);
      caught_up = elim h.caught_up [
        | inl nothing ↦ inl nothing
        | inr all ↦ inr (omega (arith, all))
      ];
      sound = h.sound;
    }
