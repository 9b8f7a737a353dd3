-- The registers that replies are compared with, one for each reader.
use Rattle.std.proofs.Common.{◌≡◌, ℕ, zero, suc, ◌<◌, ◌≤◌, Bool, true, false, List, [], ◌∷◌}
use Rattle.std.proofs.Common.{length, get_or, map, set, replicate, Ok, Err}
use Rattle.std.proofs.Common.{refl, sym, ap, ap₂, subst, ◌∙◌, arith}
use Rattle.std.specs.List.{All}
use Rattle.std.specs.Prelude.{take, nat_lt, if◌then◌else◌}
use Rattle.std.proofs.lemmas.Bool.{ltb-false}
use Rattle.std.proofs.lemmas.List.{length-map, length-take-le, get_or-set_same, map-set}
use Rattle.osn_days.specs.Rules.{newest_rules}
use Rattle.osn_register.specs.declared.edit.Edit.{Edit}
use Rattle.osn_register.specs.declared.limits.Limits.{Limits}
use Rattle.osn_register.specs.declared.answer.Answer.{Answer}
use Rattle.osn_register.specs.declared.query.Query.{Query}
use Rattle.osn_register.specs.Plain.{register_after}
use Rattle.osn_core.specs.declared.step.Reply.{Reply}
use Rattle.osn_register.specs.Lawful.{AreLawful}
use Rattle.osn_core.specs.Sequential.{ObjectState, territories_of, joined, reply_at, IsSound}
use Rattle.osn_core.proofs.Lawful.{AreLawful-front}
use Rattle.osn_request.specs.declared.wire_fault.WireFault.TheVariants.{UnknownEdition, EditionFell}
use Rattle.osn_file_commands.specs.TranscriptAudit.{known_edition}
use Rattle.osn_file_commands.specs.AuditState.{AuditState}
use Rattle.osn_file_commands.specs.declared.audit_follower.RegisterCursor.{RegisterCursor}
use Rattle.osn_file_commands.specs.declared.audit_followers.Place.{Place}
use Rattle.osn_file_commands.specs.InsideFollower.{IsAt}
use Rattle.osn_file_commands.specs.InsideFollowers.{IsPlace}

-- the empty register is at edition 0
pub IsAt-first : (limits given : Limits) (batches : List (List Edit)) (f : RegisterCursor)
    → given ≡ limits → f.edition ≡ 0 → f.register ≡ register_after newest_rules given [] →
    IsAt limits batches f
IsAt-first limits given batches f same edition register = record {
  there = omega (arith, edition);
  same = ap (λ r. r.limits) register ∙ same;
  territories =
      ap (λ r. r.territories) register
      ∙ sym (ap (λ n. territories_of newest_rules limits (take n batches)) edition);
}

-- the batches of a sound object are lawful
pub batches_lawful : (s : ObjectState) (own : Limits) (given : List (List Edit))
    → IsSound newest_rules s → own ≡ s.limits → given ≡ s.batches
    → AreLawful newest_rules own [] (joined given)
batches_lawful s own given sound same are =
    subst (λ bs. AreLawful newest_rules own [] (joined bs)) (sym are)
    (subst (λ l. AreLawful newest_rules l [] (joined s.batches)) (sym same)
    (AreLawful-front newest_rules s.limits [] (joined s.batches) s.pending sound.lawful))

-- a place where no reply was given
pub IsPlace-first : (limits given : Limits) (batches : List (List Edit)) (p : Place)
    → given ≡ limits → p.last ≡ 0 → p.own.edition ≡ 0
    → p.own.register ≡ register_after newest_rules given [] → IsPlace limits batches p
IsPlace-first limits given batches p same last edition register = record {
  there = omega (arith, last);
  at = IsAt-first limits given batches p.own same edition register;
  from = omega (arith, edition);
}

-- if each reader's last edition is 0, no reader has a reply
pub none_replied : (ps : List Place) (n : ℕ) → length ps ≡ n → All (λ p. p.last ≡ 0) ps
    → map (λ p. p.last) ps ≡ replicate n 0
none_replied ps n count each = zeros ps each ∙ ap (λ k. replicate k 0) count
  where
    zeros : (qs : List Place) → All (λ p. p.last ≡ 0) qs
        → map (λ p. p.last) qs ≡ replicate (length qs) 0
    zeros [] h = refl
    zeros (q ∷ qs) h =
        ap₂ (λ x xs. x ∷ xs) (h 0 q (omega arith))
        (zeros qs (λ k d within. h (suc k) d (omega (arith, within))))

pub All-one : (P : Place → Type 0) (p : Place) → P p → All P (p ∷ [])
All-one P p h zero d within = h
All-one P p h (suc k) d within = absurd (omega (arith, within))

-- a known edition is at most the number of editions
there_by : (editions edition : ℕ) (a b : Bool) → nat_lt editions edition ≡ a
    → (if a then Err UnknownEdition else (if b then Err EditionFell else Ok edition)) ≡ Ok edition
    → edition ≤ editions
there_by editions edition true b is h = absurd (cc)
there_by editions edition false b is h = ltb-false editions edition is

abbrev pub state_of : ObjectState → List ℕ → AuditState
state_of object last = record { object = object; last = last }

abbrev reply : ℕ → Answer → Reply
reply edition answer = record { edition = edition; answer = answer }

-- the answer under a reader's last edition, once that is set, is the reply under it
pub reply_set : (s o : ObjectState) (ps : List Place) (i last edition : ℕ) (q : Query) (p : Place)
    (a : Answer) → o ≡ s → p.last ≡ edition → i < length ps
    → known_edition (length s.batches) last edition ≡ Ok edition
    → a ≡ (reply_at newest_rules o.limits
    (take (get_or (map (λ r. r.last) (set ps i p)) i 0) o.batches) q).answer
    → reply edition a ≡ reply_at newest_rules s.limits (take edition s.batches) q
reply_set s o ps i last edition q p a same is within known answered =
    let lasts = map (λ (r : Place). r.last) ps in
    let count : i < length lasts = subst (λ n. i < n) (sym (length-map ps (λ r. r.last))) within in
    let set_is : get_or (map (λ (r : Place). r.last) (set ps i p)) i 0 ≡ edition =
    ap (λ l. get_or l i 0) (map-set (λ (r : Place). r.last) ps i p)
    ∙ (get_or-set_same lasts i p.last 0 count ∙ is) in
    let there = there_by (length s.batches) edition _ _ refl known in
    ap₂ reply (sym (length-take-le edition s.batches there))
    (answered
    ∙ (ap (λ n. (reply_at newest_rules o.limits (take n o.batches) q).answer) set_is
    ∙ ap (λ t. (reply_at newest_rules t.limits (take edition t.batches) q).answer) same))
