-- What the core gives over every list of steps, compared with the sequential object run on the
-- history. The editor gets the same, and each reader gets the first of the replies.
use Rattle.std.proofs.Common.{◌≡◌, ℕ, ◌+◌, ◌==◌, Bool, true, false}
use Rattle.std.proofs.Common.{List, [], ◌∷◌, ◌++◌, length, Option, Some}
use Rattle.std.proofs.Common.{None, refl, sym, ap, ◌∙◌, ◌-◌, append_assoc}
use Rattle.std.proofs.Common.{append-nil}
use Rattle.osn_days.specs.Rules.{Rules}
use Rattle.osn_register.specs.declared.refusal.Refusal.{Refusal}
use Rattle.osn_register.specs.declared.query.Query.{Query}
use Rattle.osn_register.specs.declared.edit.Edit.{Edit}
use Rattle.osn_core.specs.declared.phase.Phase.{Phase}
use Rattle.osn_core.specs.declared.phase.Phase.TheVariants.{Ready, Draining, Claimed}
use Rattle.osn_core.specs.declared.reader.ReaderState.{ReaderState}
use Rattle.osn_core.specs.declared.reader.ReaderState.TheVariants.{Idle, Noted, Marked, Entered}
use Rattle.osn_core.specs.declared.reader.ReaderState.TheVariants.{Answered}
use Rattle.osn_core.specs.declared.step.Reply.{Reply}
use Rattle.osn_core.specs.declared.step.Out.TheVariants as Says
use Rattle.osn_core.specs.declared.step.Step.{Step}
use Rattle.osn_core.specs.declared.step.Step.TheVariants.{Look, Pin, Check, Answer, Leave, Stage}
use Rattle.osn_core.specs.declared.step.Step.TheVariants.{Publish, Claim, Absorb}
use Rattle.osn_core.specs.Sequential.{ObjectState, stage_refusal, publish_refusal}
use Rattle.osn_core.specs.Sequential.{with_edition, state_unless, out_unless, stage_out}
use Rattle.osn_core.specs.Sequential.{stage_after, publish_out, publish_after}
use Rattle.osn_core.specs.Control.{reader_at, set_reader, look, pin, check, entering, leave}
use Rattle.osn_core.specs.Control.{is_marked, claim_out, absorb_out, out_at, readers_after}
use Rattle.osn_core.specs.Machine.{CoreState, answer, out_in, out_of, core_in, with_published}
use Rattle.osn_core.specs.Machine.{core_after, outs_of}
use Rattle.osn_core.specs.History.{Call, Stages, Publishes, Looks, looks_after, call_of}
use Rattle.osn_core.specs.History.{calls_of, ask_of, outs_to, replies_to, reply_to}
use Rattle.osn_core.proofs.Knows.{Knows, AllKnown, step_known}
use Rattle.osn_core.proofs.PendingReplies.{owed, still_owed, enters, answers, owed_staged}
use Rattle.osn_core.proofs.PendingReplies.{owed_published}

-- the replies that are given and owed after a step are those owed before, and the object's reply to
-- its call
abbrev Settles : Rules → ℕ → Looks → CoreState → Step → Type 0
Settles p r looks c step = (calls : List Call) →
    reply_to r (out_of p c step)
    ++ (owed p (core_after p c step).object (reader_at (core_after p c step).control.readers r)
    ++ replies_to r (outs_to p (core_after p c step).object calls))
    ≡ owed p c.object (reader_at c.control.readers r)
    ++ replies_to r (outs_to p c.object (call_of looks step (out_of p c step) ++ calls))

look_settles : (p : Rules) (s : ObjectState) (readers : List ReaderState) (a r live : ℕ)
    (q : Query) (looks : Looks) (at : Option ReaderState) → reader_at readers a ≡ at →
    (calls : List Call) →
    reply_to r (out_at (look live q) at)
    ++ (owed p s (reader_at (readers_after (look live q) at readers a) r)
    ++ replies_to r (outs_to p s calls))
    ≡ owed p s (reader_at readers r)
    ++ replies_to r (outs_to p s (call_of looks (Look a q) (out_at (look live q) at) ++ calls))
look_settles p s readers a r live q looks None is calls = refl
look_settles p s readers a r live q looks (Some Idle) is calls =
    still_owed p s readers a r Idle (Noted q live) is refl (replies_to r (outs_to p s calls))
look_settles p s readers a r live q looks (Some (Noted n side)) is calls =
    still_owed p s readers a r (Noted n side) (Noted n side) is refl
    (replies_to r (outs_to p s calls))
look_settles p s readers a r live q looks (Some (Marked n side)) is calls =
    still_owed p s readers a r (Marked n side) (Marked n side) is refl
    (replies_to r (outs_to p s calls))
look_settles p s readers a r live q looks (Some (Entered n side k)) is calls =
    still_owed p s readers a r (Entered n side k) (Entered n side k) is refl
    (replies_to r (outs_to p s calls))
look_settles p s readers a r live q looks (Some (Answered side k)) is calls =
    still_owed p s readers a r (Answered side k) (Answered side k) is refl
    (replies_to r (outs_to p s calls))

pin_settles : (p : Rules) (s : ObjectState) (readers : List ReaderState) (a r : ℕ)
    (looks : Looks) (at : Option ReaderState) → reader_at readers a ≡ at → (calls : List Call) →
    reply_to r (out_at pin at)
    ++ (owed p s (reader_at (readers_after pin at readers a) r) ++ replies_to r (outs_to p s calls))
    ≡ owed p s (reader_at readers r)
    ++ replies_to r (outs_to p s (call_of looks (Pin a) (out_at pin at) ++ calls))
pin_settles p s readers a r looks None is calls = refl
pin_settles p s readers a r looks (Some Idle) is calls =
    still_owed p s readers a r Idle Idle is refl (replies_to r (outs_to p s calls))
pin_settles p s readers a r looks (Some (Noted q side)) is calls =
    still_owed p s readers a r (Noted q side) (Marked q side) is refl
    (replies_to r (outs_to p s calls))
pin_settles p s readers a r looks (Some (Marked q side)) is calls =
    still_owed p s readers a r (Marked q side) (Marked q side) is refl
    (replies_to r (outs_to p s calls))
pin_settles p s readers a r looks (Some (Entered q side k)) is calls =
    still_owed p s readers a r (Entered q side k) (Entered q side k) is refl
    (replies_to r (outs_to p s calls))
pin_settles p s readers a r looks (Some (Answered side k)) is calls =
    still_owed p s readers a r (Answered side k) (Answered side k) is refl
    (replies_to r (outs_to p s calls))

entering_settles : (p : Rules) (s : ObjectState) (readers : List ReaderState)
    (a r live side : ℕ) (q : Query) (looks : Looks) (b : Bool) →
    reader_at readers a ≡ Some (Marked q side) → looks a ≡ Some q → (calls : List Call) →
    reply_to r (entering b live (length s.batches) q side).out
    ++ (owed p s (reader_at (set_reader readers a (entering b live (length s.batches) q side).at) r)
    ++ replies_to r (outs_to p s calls))
    ≡ owed p s (reader_at readers r)
    ++ replies_to r (outs_to p s (call_of looks (Check a) (entering b live (length s.batches) q
    side).out ++ calls))
entering_settles p s readers a r live side q looks true is looked calls =
    enters p s readers a r side q is (replies_to r (outs_to p s calls))
    ∙ sym (ap
    (λ l. owed p s (reader_at readers r) ++ replies_to r (outs_to p s (ask_of l a ++ calls)))
    looked)
entering_settles p s readers a r live side q looks false is looked calls =
    still_owed p s readers a r (Marked q side) (Noted q live) is refl
    (replies_to r (outs_to p s calls))

check_settles : (p : Rules) (s : ObjectState) (readers : List ReaderState) (a r live : ℕ)
    (looks : Looks) (at : Option ReaderState) → reader_at readers a ≡ at →
    Knows looks (length s.batches) a at → (calls : List Call) →
    reply_to r (out_at (check live (length s.batches)) at)
    ++ (owed p s (reader_at (readers_after (check live (length s.batches)) at readers a) r)
    ++ replies_to r (outs_to p s calls))
    ≡ owed p s (reader_at readers r)
    ++ replies_to r (outs_to p s
    (call_of looks (Check a) (out_at (check live (length s.batches)) at) ++ calls))
check_settles p s readers a r live looks None is h calls = refl
check_settles p s readers a r live looks (Some Idle) is h calls =
    still_owed p s readers a r Idle Idle is refl (replies_to r (outs_to p s calls))
check_settles p s readers a r live looks (Some (Noted q side)) is h calls =
    still_owed p s readers a r (Noted q side) (Noted q side) is refl
    (replies_to r (outs_to p s calls))
check_settles p s readers a r live looks (Some (Marked q side)) is h calls =
    entering_settles p s readers a r live side q looks (side == live) is h calls
check_settles p s readers a r live looks (Some (Entered q side k)) is h calls =
    still_owed p s readers a r (Entered q side k) (Entered q side k) is refl
    (replies_to r (outs_to p s calls))
check_settles p s readers a r live looks (Some (Answered side k)) is h calls =
    still_owed p s readers a r (Answered side k) (Answered side k) is refl
    (replies_to r (outs_to p s calls))

answer_settles : (p : Rules) (s : ObjectState) (readers : List ReaderState) (a r : ℕ)
    (looks : Looks) (at : Option ReaderState) → reader_at readers a ≡ at → (calls : List Call) →
    reply_to r (out_at (answer p s a) at)
    ++ (owed p s (reader_at (readers_after (answer p s a) at readers a) r)
    ++ replies_to r (outs_to p s calls))
    ≡ owed p s (reader_at readers r)
    ++ replies_to r (outs_to p s (call_of looks (Answer a) (out_at (answer p s a) at) ++ calls))
answer_settles p s readers a r looks None is calls = refl
answer_settles p s readers a r looks (Some Idle) is calls =
    still_owed p s readers a r Idle Idle is refl (replies_to r (outs_to p s calls))
answer_settles p s readers a r looks (Some (Noted q side)) is calls =
    still_owed p s readers a r (Noted q side) (Noted q side) is refl
    (replies_to r (outs_to p s calls))
answer_settles p s readers a r looks (Some (Marked q side)) is calls =
    still_owed p s readers a r (Marked q side) (Marked q side) is refl
    (replies_to r (outs_to p s calls))
answer_settles p s readers a r looks (Some (Entered q side k)) is calls =
    answers p s readers a r side k q is (replies_to r (outs_to p s calls))
answer_settles p s readers a r looks (Some (Answered side k)) is calls =
    still_owed p s readers a r (Answered side k) (Answered side k) is refl
    (replies_to r (outs_to p s calls))

leave_settles : (p : Rules) (s : ObjectState) (readers : List ReaderState) (a r : ℕ)
    (looks : Looks) (at : Option ReaderState) → reader_at readers a ≡ at → (calls : List Call) →
    reply_to r (out_at leave at)
    ++ (owed p s (reader_at (readers_after leave at readers a) r)
    ++ replies_to r (outs_to p s calls))
    ≡ owed p s (reader_at readers r)
    ++ replies_to r (outs_to p s (call_of looks (Leave a) (out_at leave at) ++ calls))
leave_settles p s readers a r looks None is calls = refl
leave_settles p s readers a r looks (Some Idle) is calls =
    still_owed p s readers a r Idle Idle is refl (replies_to r (outs_to p s calls))
leave_settles p s readers a r looks (Some (Noted q side)) is calls =
    still_owed p s readers a r (Noted q side) (Noted q side) is refl
    (replies_to r (outs_to p s calls))
leave_settles p s readers a r looks (Some (Marked q side)) is calls =
    still_owed p s readers a r (Marked q side) (Marked q side) is refl
    (replies_to r (outs_to p s calls))
leave_settles p s readers a r looks (Some (Entered q side k)) is calls =
    still_owed p s readers a r (Entered q side k) (Entered q side k) is refl
    (replies_to r (outs_to p s calls))
leave_settles p s readers a r looks (Some (Answered side k)) is calls =
    still_owed p s readers a r (Answered side k) Idle is refl (replies_to r (outs_to p s calls))

pub stage_silent : (r n : ℕ) (f : Option Refusal) → reply_to r (out_unless f (Says.Staged n)) ≡ []
stage_silent r n None = refl
stage_silent r n (Some f) = refl

pub stage_calls : (looks : Looks) (e : Edit) (n : ℕ) (f : Option Refusal) →
    call_of looks (Stage e) (out_unless f (Says.Staged n)) ≡ Stages e ∷ []
stage_calls looks e n None = refl
stage_calls looks e n (Some f) = refl

pub publish_silent : (r n : ℕ) (f : Option Refusal) →
    reply_to r (out_unless f (Says.Published n)) ≡ []
publish_silent r n None = refl
publish_silent r n (Some f) = refl

pub publish_calls : (looks : Looks) (n : ℕ) (f : Option Refusal) →
    call_of looks Publish (out_unless f (Says.Published n)) ≡ Publishes ∷ []
publish_calls looks n None = refl
publish_calls looks n (Some f) = refl

stage_settles : (p : Rules) (r : ℕ) (looks : Looks) (c : CoreState) (e : Edit) (phase : Phase)
    (calls : List Call) →
    reply_to r (out_in phase (stage_out p c.object e))
    ++ (owed p (core_in phase (record c { object = stage_after p c.object e }) c).object
    (reader_at (core_in phase (record c { object = stage_after p c.object e }) c).control.readers r)
    ++ replies_to r (outs_to p (core_in phase (record c { object = stage_after p c.object e })
    c).object calls))
    ≡ owed p c.object (reader_at c.control.readers r)
    ++ replies_to r (outs_to p c.object (call_of looks (Stage e) (out_in phase (stage_out p c.object
    e)) ++ calls))
stage_settles p r looks c e Ready calls =
    let n = length c.object.pending + 1 in
    let f = stage_refusal p c.object e in
    let at = reader_at c.control.readers r in
    let rest = replies_to r (outs_to p (stage_after p c.object e) calls) in
    ap (λ l. l ++ (owed p (stage_after p c.object e) at ++ rest)) (stage_silent r n f)
    ∙ ap (λ o. o ++ rest) (owed_staged p c.object e f at)
    ∙ sym (ap (λ l. owed p c.object at ++ (l ++ rest)) (stage_silent r n f))
    ∙ sym (ap (λ cs. owed p c.object at ++ replies_to r (outs_to p c.object (cs ++ calls)))
    (stage_calls looks e n f))
stage_settles p r looks c e Draining calls = refl
stage_settles p r looks c e Claimed calls = refl

published_settles : (p : Rules) (r : ℕ) (looks : Looks) (c : CoreState) (f : Option Refusal) →
    publish_refusal c.object ≡ f →
    Knows looks (length c.object.batches) r (reader_at c.control.readers r) →
    (calls : List Call) →
    reply_to r (publish_out c.object)
    ++ (owed p (with_published f c).object (reader_at (with_published f c).control.readers r)
    ++ replies_to r (outs_to p (with_published f c).object calls))
    ≡ owed p c.object (reader_at c.control.readers r)
    ++ replies_to r (outs_to p c.object (call_of looks Publish (publish_out c.object) ++ calls))
published_settles p r looks c None is h calls =
    let s = c.object in
    let n = length s.batches + 1 in
    let at = reader_at c.control.readers r in
    let rest = replies_to r (outs_to p (publish_after s) calls) in
    ap (λ l. l ++ (owed p (publish_after s) at ++ rest)) (publish_silent r n (publish_refusal s))
    ∙ ap (λ f. owed p (state_unless f (with_edition s) s) at ++ rest) is
    ∙ ap (λ o. o ++ rest) (owed_published p s looks r at h)
    ∙ sym (ap (λ l. owed p s at ++ (l ++ rest)) (publish_silent r n (publish_refusal s)))
    ∙ sym (ap (λ cs. owed p s at ++ replies_to r (outs_to p s (cs ++ calls)))
    (publish_calls looks n (publish_refusal s)))
published_settles p r looks c (Some g) is h calls =
    let s = c.object in
    let n = length s.batches + 1 in
    let at = reader_at c.control.readers r in
    let rest = replies_to r (outs_to p (publish_after s) calls) in
    ap (λ l. l ++ (owed p s at ++ replies_to r (outs_to p s calls)))
    (publish_silent r n (publish_refusal s))
    ∙ sym (ap
    (λ f. owed p s at ++ replies_to r (outs_to p (state_unless f (with_edition s) s) calls)) is)
    ∙ sym (ap (λ l. owed p s at ++ (l ++ rest)) (publish_silent r n (publish_refusal s)))
    ∙ sym (ap (λ cs. owed p s at ++ replies_to r (outs_to p s (cs ++ calls)))
    (publish_calls looks n (publish_refusal s)))

publish_settles : (p : Rules) (r : ℕ) (looks : Looks) (c : CoreState) (phase : Phase) →
    Knows looks (length c.object.batches) r (reader_at c.control.readers r) →
    (calls : List Call) →
    reply_to r (out_in phase (publish_out c.object))
    ++ (owed p (core_in phase (with_published (publish_refusal c.object) c) c).object
    (reader_at (core_in phase (with_published (publish_refusal c.object) c) c).control.readers r)
    ++ replies_to r
    (outs_to p (core_in phase (with_published (publish_refusal c.object) c) c).object calls))
    ≡ owed p c.object (reader_at c.control.readers r)
    ++ replies_to r (outs_to p c.object (call_of looks Publish (out_in phase (publish_out c.object))
    ++ calls))
publish_settles p r looks c Ready h calls =
    published_settles p r looks c (publish_refusal c.object) refl h calls
publish_settles p r looks c Draining h calls = refl
publish_settles p r looks c Claimed h calls = refl

claim_silent : (r : ℕ) (b : Bool) (phase : Phase) → reply_to r (claim_out b phase) ≡ []
claim_silent r b Ready = refl
claim_silent r true Draining = refl
claim_silent r false Draining = refl
claim_silent r b Claimed = refl

absorb_silent : (r : ℕ) (b : Bool) (phase : Phase) → reply_to r (absorb_out b phase) ≡ []
absorb_silent r b Ready = refl
absorb_silent r b Draining = refl
absorb_silent r true Claimed = refl
absorb_silent r false Claimed = refl

step_settles : (p : Rules) (r : ℕ) (looks : Looks) (c : CoreState) (step : Step) →
    AllKnown looks (length c.object.batches) c.control.readers → Settles p r looks c step
step_settles p r looks c (Look a q) h calls =
    look_settles p c.object c.control.readers a r c.control.side q looks
    (reader_at c.control.readers a) refl calls
step_settles p r looks c (Pin a) h calls =
    pin_settles p c.object c.control.readers a r looks (reader_at c.control.readers a) refl calls
step_settles p r looks c (Check a) h calls =
    check_settles p c.object c.control.readers a r c.control.side looks
    (reader_at c.control.readers a) refl (h a) calls
step_settles p r looks c (Answer a) h calls =
    answer_settles p c.object c.control.readers a r looks (reader_at c.control.readers a) refl calls
step_settles p r looks c (Leave a) h calls =
    leave_settles p c.object c.control.readers a r looks (reader_at c.control.readers a) refl calls
step_settles p r looks c (Stage e) h calls =
    stage_settles p r looks c e c.control.phase calls
step_settles p r looks c Publish h calls =
    publish_settles p r looks c c.control.phase (h r) calls
step_settles p r looks c Claim h calls =
    ap (λ l. l ++ (owed p c.object (reader_at c.control.readers r)
    ++ replies_to r (outs_to p c.object calls)))
    (claim_silent r (is_marked (1 - c.control.side) c.control.readers) c.control.phase)
step_settles p r looks c Absorb h calls =
    ap (λ l. l ++ (owed p c.object (reader_at c.control.readers r)
    ++ replies_to r (outs_to p c.object calls)))
    (absorb_silent r (c.control.lag == 0) c.control.phase)

-- whatever the steps, a reader gets the first of what it is owed and of what the object gives it
pub replies_of_run : (p : Rules) (r : ℕ) (looks : Looks) (c : CoreState) (steps : List Step) →
    AllKnown looks (length c.object.batches) c.control.readers →
    (rest : List Reply) × (replies_to r (outs_of p c steps) ++ rest
    ≡ owed p c.object (reader_at c.control.readers r)
    ++ replies_to r (outs_to p c.object (calls_of looks steps (outs_of p c steps))))
replies_of_run p r looks c [] h =
    (owed p c.object (reader_at c.control.readers r), sym (append-nil _))
replies_of_run p r looks c (s ∷ ss) h =
    let out = out_of p c s in
    let after = core_after p c s in
    let later = looks_after looks s out in
    let next = replies_of_run p r later after ss (step_known p looks c s h) in (
      next.0,
      append_assoc (reply_to r out) (replies_to r (outs_of p after ss)) next.0
          ∙ ap (λ l. reply_to r out ++ l) next.1
          ∙ step_settles p r looks c s h (calls_of later ss (outs_of p after ss)),
    )
