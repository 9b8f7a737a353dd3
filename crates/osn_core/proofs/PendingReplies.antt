-- What a reader has asked and has no answer to yet: one reply from its check until its answer.
use Rattle.std.proofs.Common.{◌≡◌, ℕ, ◌==◌, inl, inr, if◌then◌else◌, List, [], ◌∷◌, ◌++◌}
use Rattle.std.proofs.Common.{length, take, Option, Some, None, refl, sym, ap, subst, ◌∙◌, le_refl}
use Rattle.std.proofs.lemmas.List.{take_all, take-append-le}
use Rattle.osn_days.specs.Rules.{Rules}
use Rattle.osn_register.specs.declared.refusal.Refusal.{Refusal}
use Rattle.osn_register.specs.declared.query.Query.{Query}
use Rattle.osn_register.specs.declared.edit.Edit.{Edit}
use Rattle.osn_core.specs.declared.reader.ReaderState.{ReaderState}
use Rattle.osn_core.specs.declared.reader.ReaderState.TheVariants.{Idle, Noted, Marked, Entered}
use Rattle.osn_core.specs.declared.reader.ReaderState.TheVariants.{Answered}
use Rattle.osn_core.specs.declared.step.Reply.{Reply}
use Rattle.osn_core.specs.Sequential.{ObjectState, with_pending, with_edition, state_unless}
use Rattle.osn_core.specs.Sequential.{reply_at}
use Rattle.osn_core.specs.Control.{reader_at, set_reader}
use Rattle.osn_core.specs.History.{Looks}
use Rattle.osn_core.proofs.ReaderMoves.{same_or_not, test_same, test_other, put_here, put_elsewhere}
use Rattle.osn_core.proofs.Knows.{Knows}

-- the reply that a reader has asked for and has not got yet
abbrev pub owed : Rules → ObjectState → Option ReaderState → List Reply
owed p s None = []
owed p s (Some Idle) = []
owed p s (Some (Noted q side)) = []
owed p s (Some (Marked q side)) = []
owed p s (Some (Entered q side k)) = reply_at p s.limits (take k s.batches) q ∷ []
owed p s (Some (Answered side k)) = []

-- a reader is put in a state in which it is owed what it was owed before
pub still_owed : (p : Rules) (s : ObjectState) (readers : List ReaderState) (a r : ℕ)
    (x y : ReaderState) → reader_at readers a ≡ Some x → owed p s (Some y) ≡ owed p s (Some x) →
    (rest : List Reply) → owed p s (reader_at (set_reader readers a y) r) ++ rest
    ≡ owed p s (reader_at readers r) ++ rest
still_owed p s readers a r x y is same rest = elim (same_or_not a r) [
  | inl e ↦ subst (λ r. owed p s (reader_at (set_reader readers a y) r) ++ rest
      ≡ owed p s (reader_at readers r) ++ rest) e
      (ap (λ o. o ++ rest) (ap (owed p s) (put_here readers a x y is) ∙ same
      ∙ sym (ap (owed p s) is)))
  | inr ne ↦ ap (λ at. owed p s at ++ rest) (put_elsewhere readers a r y ne)
]

if_same : (a r : ℕ) (reply : Reply) → a ≡ r →
    (if a == r then reply ∷ [] else []) ≡ reply ∷ []
if_same a r reply e = ap (λ b. if b then reply ∷ [] else []) (test_same a r e)

if_other : (a r : ℕ) (reply : Reply) → (a ≡ r → ⊥) →
    (if a == r then reply ∷ [] else []) ≡ []
if_other a r reply ne = ap (λ b. if b then reply ∷ [] else []) (test_other a r ne)

-- a reader enters: it is owed the reply that the object gives it there
pub enters : (p : Rules) (s : ObjectState) (readers : List ReaderState) (a r side : ℕ)
    (q : Query) →
    reader_at readers a ≡ Some (Marked q side) → (rest : List Reply) →
    owed p s (reader_at (set_reader readers a (Entered q side (length s.batches))) r) ++ rest
    ≡ owed p s (reader_at readers r)
    ++ ((if a == r then reply_at p s.limits s.batches q ∷ [] else []) ++ rest)
enters p s readers a r side q is rest =
    let y = Entered q side (length s.batches) in
    let reply = reply_at p s.limits s.batches q in
    elim (same_or_not a r) [
      | inl e ↦ subst (λ r. owed p s (reader_at (set_reader readers a y) r) ++ rest
          ≡ owed p s (reader_at readers r) ++ ((if a == r then reply ∷ [] else []) ++ rest)) e
          (ap (λ at. owed p s at ++ rest) (put_here readers a (Marked q side) y is)
          ∙ ap (λ bs. reply_at p s.limits bs q ∷ rest) (take_all (length s.batches) s.batches
          (le_refl _))
          ∙ sym (ap (λ rs. rs ++ rest) (if_same a a reply refl))
          ∙ sym (ap (λ at. owed p s at ++ ((if a == a then reply ∷ [] else []) ++ rest)) is))
      | inr ne ↦ ap (λ at. owed p s at ++ rest) (put_elsewhere readers a r y ne)
          ∙ sym (ap (λ rs. owed p s (reader_at readers r) ++ (rs ++ rest))
          (if_other a r reply ne))
    ]

-- a reader is answered: it gets what it was owed
pub answers : (p : Rules) (s : ObjectState) (readers : List ReaderState) (a r side k : ℕ)
    (q : Query) → reader_at readers a ≡ Some (Entered q side k) → (rest : List Reply) →
    (if a == r then reply_at p s.limits (take k s.batches) q ∷ [] else [])
    ++ (owed p s (reader_at (set_reader readers a (Answered side k)) r) ++ rest)
    ≡ owed p s (reader_at readers r) ++ rest
answers p s readers a r side k q is rest =
    let y = Answered side k in
    let reply = reply_at p s.limits (take k s.batches) q in
    elim (same_or_not a r) [
      | inl e ↦ subst (λ r. (if a == r then reply ∷ [] else [])
          ++ (owed p s (reader_at (set_reader readers a y) r) ++ rest)
          ≡ owed p s (reader_at readers r) ++ rest) e
          (ap (λ rs. rs ++ (owed p s (reader_at (set_reader readers a y) a) ++ rest))
          (if_same a a reply refl)
          ∙ ap (λ at. reply ∷ (owed p s at ++ rest)) (put_here readers a (Entered q side k) y is)
          ∙ sym (ap (λ at. owed p s at ++ rest) is))
      | inr ne ↦ ap (λ rs. rs ++ (owed p s (reader_at (set_reader readers a y) r) ++ rest))
          (if_other a r reply ne)
          ∙ ap (λ at. owed p s at ++ rest) (put_elsewhere readers a r y ne)
    ]

-- what the editor stages and publishes changes nothing of what readers are owed
pub owed_staged : (p : Rules) (s : ObjectState) (e : Edit) (f : Option Refusal)
    (at : Option ReaderState) → owed p (state_unless f (with_pending s e) s) at ≡ owed p s at
owed_staged p s e None None = refl
owed_staged p s e None (Some Idle) = refl
owed_staged p s e None (Some (Noted q side)) = refl
owed_staged p s e None (Some (Marked q side)) = refl
owed_staged p s e None (Some (Entered q side k)) = refl
owed_staged p s e None (Some (Answered side k)) = refl
owed_staged p s e (Some f) at = refl

pub owed_published : (p : Rules) (s : ObjectState) (looks : Looks) (r : ℕ)
    (at : Option ReaderState) → Knows looks (length s.batches) r at →
    owed p (with_edition s) at ≡ owed p s at
owed_published p s looks r None h = refl
owed_published p s looks r (Some Idle) h = refl
owed_published p s looks r (Some (Noted q side)) h = refl
owed_published p s looks r (Some (Marked q side)) h = refl
owed_published p s looks r (Some (Entered q side k)) h =
    ap (λ bs. reply_at p s.limits bs q ∷ []) (take-append-le k s.batches (s.pending ∷ []) h)
owed_published p s looks r (Some (Answered side k)) h = refl
