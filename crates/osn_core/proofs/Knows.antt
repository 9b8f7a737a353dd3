-- What the history knows of each reader: the query that it noted, and that it entered with no more
-- editions than there are.
use Rattle.std.proofs.Common.{◌≡◌, ℕ, zero, suc, ◌≤◌, ◌==◌, inl, inr, Bool, true, false}
use Rattle.std.proofs.Common.{if◌then◌else◌, List, [], ◌∷◌, ◌++◌, length, slice_get}
use Rattle.std.proofs.Common.{◌-◌, Option, Some, None, refl, sym, ap, subst, ◌∙◌, arith, le_refl}
use Rattle.std.proofs.Common.{length-append}
use Rattle.osn_days.specs.Rules.{Rules}
use Rattle.osn_register.specs.declared.refusal.Refusal.{Refusal}
use Rattle.osn_register.specs.declared.query.Query.{Query}
use Rattle.osn_register.specs.declared.edit.Edit.{Edit}
use Rattle.osn_core.specs.declared.phase.Phase.{Phase}
use Rattle.osn_core.specs.declared.phase.Phase.TheVariants.{Ready, Draining, Claimed}
use Rattle.osn_core.specs.declared.reader.ReaderState.{ReaderState}
use Rattle.osn_core.specs.declared.reader.ReaderState.TheVariants.{Idle, Noted, Marked, Entered}
use Rattle.osn_core.specs.declared.reader.ReaderState.TheVariants.{Answered}
use Rattle.osn_core.specs.declared.step.Step.{Step}
use Rattle.osn_core.specs.declared.step.Step.TheVariants.{Look, Pin, Check, Answer, Leave, Stage}
use Rattle.osn_core.specs.declared.step.Step.TheVariants.{Publish, Claim, Absorb}
use Rattle.osn_core.specs.Sequential.{ObjectState, stage_refusal, publish_refusal, with_pending}
use Rattle.osn_core.specs.Sequential.{with_edition, state_unless}
use Rattle.osn_core.specs.Control.{reader_at, set_reader, all_idle, look, pin, check}
use Rattle.osn_core.specs.Control.{entering, leave, out_at, readers_after}
use Rattle.osn_core.specs.Machine.{CoreState, answer, out_of, core_after, core_in, with_published}
use Rattle.osn_core.specs.History.{Looks, looks_after}
use Rattle.osn_core.proofs.ReaderMoves.{same_or_not, test_same, test_other, put_here, put_elsewhere}
use Rattle.osn_core.proofs.ReaderMoves.{put_keeps, move_keeps}

abbrev pub Knows : Looks → ℕ → ℕ → Option ReaderState → Type 0
Knows looks n r None = Unit {0}
Knows looks n r (Some Idle) = Unit {0}
Knows looks n r (Some (Noted q s)) = looks r ≡ Some q
Knows looks n r (Some (Marked q s)) = looks r ≡ Some q
Knows looks n r (Some (Entered q s k)) = k ≤ n
Knows looks n r (Some (Answered s k)) = Unit {0}

abbrev pub AllKnown : Looks → ℕ → List ReaderState → Type 0
AllKnown looks n readers = (r : ℕ) → Knows looks n r (reader_at readers r)

-- a look of one reader changes nothing of what is known of another
still_known : (looks : Looks) (n a r : ℕ) (q : Query) (at : Option ReaderState) → (a ≡ r → ⊥) →
    Knows looks n r at → Knows (λ other. if a == other then Some q else looks other) n r at
still_known looks n a r q None ne h = tt
still_known looks n a r q (Some Idle) ne h = tt
still_known looks n a r q (Some (Noted p s)) ne h =
    ap (λ b. if b then Some q else looks r) (test_other a r ne) ∙ h
still_known looks n a r q (Some (Marked p s)) ne h =
    ap (λ b. if b then Some q else looks r) (test_other a r ne) ∙ h
still_known looks n a r q (Some (Entered p s k)) ne h = h
still_known looks n a r q (Some (Answered s k)) ne h = tt

looked_known : (looks : Looks) (n : ℕ) (readers : List ReaderState) (a live : ℕ) (q : Query) →
    reader_at readers a ≡ Some Idle → AllKnown looks n readers →
    AllKnown (λ other. if a == other then Some q else looks other) n
    (set_reader readers a (Noted q live))
looked_known looks n readers a live q is h r = elim (same_or_not a r) [
  | inl e ↦ subst (λ r. Knows (λ other. if a == other then Some q else looks other) n r
      (reader_at (set_reader readers a (Noted q live)) r)) e
      (subst (Knows (λ other. if a == other then Some q else looks other) n a)
      (sym (put_here readers a Idle (Noted q live) is))
      (ap (λ b. if b then Some q else looks a) (test_same a a refl)))
  | inr ne ↦ subst (Knows (λ other. if a == other then Some q else looks other) n r)
      (sym (put_elsewhere readers a r (Noted q live) ne))
      (still_known looks n a r q (reader_at readers r) ne (h r))
]

put_back : (looks : Looks) (n : ℕ) (readers : List ReaderState) (a : ℕ) (x : ReaderState) →
    reader_at readers a ≡ Some x → AllKnown looks n readers →
    AllKnown looks n (set_reader readers a x)
put_back looks n readers a x is h =
    put_keeps (Knows looks n) readers a x x is h (subst (Knows looks n a) is (h a))

look_known : (looks : Looks) (n : ℕ) (readers : List ReaderState) (a live : ℕ) (q : Query)
    (at : Option ReaderState) → reader_at readers a ≡ at → AllKnown looks n readers →
    AllKnown (looks_after looks (Look a q) (out_at (look live q) at)) n
    (readers_after (look live q) at readers a)
look_known looks n readers a live q None is h = h
look_known looks n readers a live q (Some Idle) is h =
    looked_known looks n readers a live q is h
look_known looks n readers a live q (Some (Noted p s)) is h =
    put_back looks n readers a (Noted p s) is h
look_known looks n readers a live q (Some (Marked p s)) is h =
    put_back looks n readers a (Marked p s) is h
look_known looks n readers a live q (Some (Entered p s k)) is h =
    put_back looks n readers a (Entered p s k) is h
look_known looks n readers a live q (Some (Answered s k)) is h =
    put_back looks n readers a (Answered s k) is h

pin_known : (looks : Looks) (n a : ℕ) (x : ReaderState) → Knows looks n a (Some x) →
    Knows looks n a (Some (pin x).at)
pin_known looks n a Idle h = h
pin_known looks n a (Noted q s) h = h
pin_known looks n a (Marked q s) h = h
pin_known looks n a (Entered q s k) h = h
pin_known looks n a (Answered s k) h = h

entering_known : (looks : Looks) (n a live : ℕ) (b : Bool) (q : Query) (s : ℕ) →
    looks a ≡ Some q → Knows looks n a (Some (entering b live n q s).at)
entering_known looks n a live true q s h = le_refl n
entering_known looks n a live false q s h = h

check_known : (looks : Looks) (n a live : ℕ) (x : ReaderState) → Knows looks n a (Some x) →
    Knows looks n a (Some (check live n x).at)
check_known looks n a live Idle h = h
check_known looks n a live (Noted q s) h = h
check_known looks n a live (Marked q s) h = entering_known looks n a live (s == live) q s h
check_known looks n a live (Entered q s k) h = h
check_known looks n a live (Answered s k) h = h

answer_known : (p : Rules) (o : ObjectState) (looks : Looks) (n a : ℕ) (x : ReaderState) →
    Knows looks n a (Some x) → Knows looks n a (Some (answer p o a x).at)
answer_known p o looks n a Idle h = h
answer_known p o looks n a (Noted q s) h = h
answer_known p o looks n a (Marked q s) h = h
answer_known p o looks n a (Entered q s k) h = tt
answer_known p o looks n a (Answered s k) h = h

leave_known : (looks : Looks) (n a : ℕ) (x : ReaderState) → Knows looks n a (Some x) →
    Knows looks n a (Some (leave x).at)
leave_known looks n a Idle h = h
leave_known looks n a (Noted q s) h = h
leave_known looks n a (Marked q s) h = h
leave_known looks n a (Entered q s k) h = h
leave_known looks n a (Answered s k) h = tt

-- what is known of a reader stays true with more editions
more_known_at : (looks : Looks) (n m r : ℕ) (at : Option ReaderState) → n ≤ m →
    Knows looks n r at → Knows looks m r at
more_known_at looks n m r None more h = tt
more_known_at looks n m r (Some Idle) more h = tt
more_known_at looks n m r (Some (Noted q s)) more h = h
more_known_at looks n m r (Some (Marked q s)) more h = h
more_known_at looks n m r (Some (Entered q s k)) more h = omega (arith, more, h)
more_known_at looks n m r (Some (Answered s k)) more h = tt

same_staged : (s : ObjectState) (e : Edit) (f : Option Refusal) →
    (state_unless f (with_pending s e) s).batches ≡ s.batches
same_staged s e None = refl
same_staged s e (Some f) = refl

stage_known : (p : Rules) (looks : Looks) (c : CoreState) (e : Edit) (f : Option Refusal)
    (phase : Phase) → AllKnown looks (length c.object.batches) c.control.readers →
    AllKnown looks
    (length (core_in phase (record c { object = state_unless f (with_pending c.object e) c.object })
    c).object.batches)
    (core_in phase (record c { object = state_unless f (with_pending c.object e) c.object })
    c).control.readers
stage_known p looks c e f Ready h r =
    subst (λ bs. Knows looks (length bs) r (reader_at c.control.readers r))
    (sym (same_staged c.object e f)) (h r)
stage_known p looks c e f Draining h r = h r
stage_known p looks c e f Claimed h r = h r

published_known : (looks : Looks) (c : CoreState) (f : Option Refusal) →
    publish_refusal c.object ≡ f → AllKnown looks (length c.object.batches) c.control.readers →
    AllKnown looks (length (with_published f c).object.batches)
    (with_published f c).control.readers
published_known looks c None is h r =
    let batches : (state_unless (publish_refusal c.object) (with_edition c.object)
    c.object).batches ≡ c.object.batches ++ c.object.pending ∷ [] =
    ap (λ f. (state_unless f (with_edition c.object) c.object).batches) is in
    subst (λ bs. Knows looks (length bs) r (reader_at c.control.readers r)) (sym batches)
    (more_known_at looks (length c.object.batches)
    (length (c.object.batches ++ c.object.pending ∷ [])) r (reader_at c.control.readers r)
    (omega (arith, length-append c.object.batches (c.object.pending ∷ []))) (h r))
published_known looks c (Some f) is h r = h r

publish_known : (looks : Looks) (c : CoreState) (phase : Phase) →
    AllKnown looks (length c.object.batches) c.control.readers →
    AllKnown looks
    (length (core_in phase (with_published (publish_refusal c.object) c) c).object.batches)
    (core_in phase (with_published (publish_refusal c.object) c) c).control.readers
publish_known looks c Ready h r =
    published_known looks c (publish_refusal c.object) refl h r
publish_known looks c Draining h r = h r
publish_known looks c Claimed h r = h r

pub step_known : (p : Rules) (looks : Looks) (c : CoreState) (step : Step) →
    AllKnown looks (length c.object.batches) c.control.readers →
    AllKnown (looks_after looks step (out_of p c step))
    (length (core_after p c step).object.batches) (core_after p c step).control.readers
step_known p looks c (Look a q) h r =
    look_known looks (length c.object.batches) c.control.readers a c.control.side q
    (reader_at c.control.readers a) refl h r
step_known p looks c (Pin a) h r =
    move_keeps (Knows looks (length c.object.batches)) pin c.control.readers a h
    (pin_known looks (length c.object.batches) a) r
step_known p looks c (Check a) h r =
    move_keeps (Knows looks (length c.object.batches))
    (check c.control.side (length c.object.batches)) c.control.readers a h
    (check_known looks (length c.object.batches) a c.control.side) r
step_known p looks c (Answer a) h r =
    move_keeps (Knows looks (length c.object.batches)) (answer p c.object a) c.control.readers a h
    (answer_known p c.object looks (length c.object.batches) a) r
step_known p looks c (Leave a) h r =
    move_keeps (Knows looks (length c.object.batches)) leave c.control.readers a h
    (leave_known looks (length c.object.batches) a) r
step_known p looks c (Stage e) h r =
    stage_known p looks c e (stage_refusal p c.object e) c.control.phase h r
step_known p looks c Publish h r = publish_known looks c c.control.phase h r
step_known p looks c Claim h r = h r
step_known p looks c Absorb h r = h r

-- at first all readers are idle
idle_place : (P : Option ReaderState → Type 0) → P None → P (Some Idle) → (n i : ℕ) →
    P (slice_get (all_idle n) i)
idle_place P none idle zero i = none
idle_place P none idle (suc n) zero = idle
idle_place P none idle (suc n) (suc i) = idle_place P none idle n i

pub idle_at : (P : Option ReaderState → Type 0) → P None → P (Some Idle) → (n r : ℕ) →
    P (reader_at (all_idle n) r)
idle_at P none idle n r =
    elim (r == 0) as (λ b. P (if b then None else slice_get (all_idle n) (r - 1)))
    [ true ↦ none | false ↦ idle_place P none idle n (r - 1) ]
