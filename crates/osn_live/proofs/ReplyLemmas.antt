-- Replies with one more question, and under more batches.
use Rattle.std.proofs.Common.{◌≡◌, ◌∙◌, ℕ, ◌≤◌, List, [], ◌∷◌, ◌++◌, length, take, refl, ap, sym}
use Rattle.std.proofs.Common.{subst, arith, le_refl, length-append, append-nil, inl, inr, Result}
use Rattle.std.proofs.Common.{Ok, Err, IfOk, Vec}
use Rattle.std.specs.declared.alloc.Global.{Global}
use Rattle.std.proofs.lemmas.List.{take-append-le}
use Rattle.std.proofs.lemmas.Grind.{common_steps}
use Rattle.osn_days.specs.Rules.{Rules}
use Rattle.osn_register.specs.declared.limits.Limits.{Limits}
use Rattle.osn_register.specs.declared.edit.Edit.{Edit}
use Rattle.osn_register.specs.declared.query.Query.{Query}
use Rattle.osn_core.specs.declared.step.Reply.{Reply}
use Rattle.osn_core.specs.Sequential.{reply_at}
use Rattle.osn_live.specs.declared.work_fault.WorkFault.{WorkFault}
use Rattle.osn_live.specs.Batches.{Begins, IsLater}
use Rattle.osn_live.specs.Desk.{AreReplies}

length_begins : (xs ys : List (List Edit)) → Begins xs ys → length xs ≤ length ys
length_begins xs ys b = subst (λ (l : List (List Edit)). length xs ≤ length l) b.is
    (omega (arith, length-append xs b.rest))

take_begins : (k : ℕ) (xs ys : List (List Edit)) → k ≤ length xs → Begins xs ys →
    take k xs ≡ take k ys
take_begins k xs ys low b = subst (λ (l : List (List Edit)). take k xs ≡ take k l) b.is
    (sym (take-append-le k xs b.rest low))

-- replies under batches are replies under more batches
pub replies_later : (p : Rules) (l : Limits) (xs ys : List (List Edit)) (floor : ℕ)
    (qs : List Query) (rs : List Reply) → Begins xs ys → AreReplies p l xs floor qs rs →
    AreReplies p l ys floor qs rs
replies_later p l xs ys floor [] [] b h = tt
replies_later p l xs ys floor (q ∷ qs) (r ∷ rs) b h =
    let more = length_begins xs ys b in
    let same = ap (λ t. reply_at p l t q) (take_begins r.edition xs ys h.1.0 b) in (
      h.0,
      (omega (arith, h.1.0, more), h.1.1 ∙ same),
      replies_later p l xs ys r.edition qs rs b h.2,
    )
replies_later p l xs ys floor [] (r ∷ rs) b h = absurd h
replies_later p l xs ys floor (q ∷ qs) [] b h = absurd h

take_whole : (xs : List (List Edit)) → take (length xs) xs ≡ xs
take_whole xs = grind (arith, common_steps)

pub replies_more : (p : Rules) (l : Limits) (xs : List (List Edit)) (floor : ℕ)
    (qs : List Query) (rs : List Reply) (q : Query) → floor ≤ length xs →
    AreReplies p l xs floor qs rs →
    AreReplies p l xs floor (qs ++ q ∷ []) (rs ++ reply_at p l xs q ∷ [])
replies_more p l xs floor [] [] q low h =
    (low, (le_refl _, ap (λ t. reply_at p l t q) (sym (take_whole xs))), tt)
replies_more p l xs floor (o ∷ qs) (r ∷ rs) q low h =
    (h.0, h.1, replies_more p l xs r.edition qs rs q h.1.0 h.2)
replies_more p l xs floor [] (r ∷ rs) q low h = absurd h
replies_more p l xs floor (o ∷ qs) [] q low h = absurd h

no_rest : (ys rest : List (List Edit)) → length (ys ++ rest) ≤ length ys → rest ≡ []
no_rest ys [] le = refl
no_rest ys (r ∷ rest) le = absurd (omega (arith, length-append ys (r ∷ rest), le))

-- if one of two lists begins the other, the one that is no longer begins the other
pub later_first : (xs ys zs : List (List Edit)) → IsLater xs ys zs → length xs ≤ length ys →
    Begins xs ys
later_first xs ys zs (inl h) le = h.0
later_first xs ys zs (inr h) le =
    let none : h.0.rest ≡ [] = no_rest ys h.0.rest (omega (arith, ap length h.0.is, le)) in
    record { rest = []; is = append-nil xs ∙ sym h.0.is ∙ ap (λ r. ys ++ r) none ∙ append-nil ys }

pub replies_settled : (p : Rules) (l : Limits) (xs ys : List (List Edit)) (qs : List Query)
    (r : Result (Vec Reply Global) WorkFault) → Begins xs ys →
    IfOk r (λ rs. AreReplies p l xs 0 qs rs.items) → IfOk r (λ rs. AreReplies p l ys 0 qs rs.items)
replies_settled p l xs ys qs (Ok rs) b h = replies_later p l xs ys 0 qs rs.items b h
replies_settled p l xs ys qs (Err f) b h = tt
