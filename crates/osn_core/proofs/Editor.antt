-- Over every list of steps, the editor gets what the sequential object gives it on the history.
use Rattle.std.proofs.Common.{◌≡◌, ℕ, ◌-◌, ◌+◌, ◌==◌, Bool, true, false, List, []}
use Rattle.std.proofs.Common.{◌∷◌, ◌++◌, length, Option, Some, None, refl, sym, ap, ◌∙◌}
use Rattle.osn_days.specs.Rules.{Rules}
use Rattle.osn_register.specs.declared.refusal.Refusal.{Refusal}
use Rattle.osn_register.specs.declared.query.Query.{Query}
use Rattle.osn_register.specs.declared.edit.Edit.{Edit}
use Rattle.osn_core.specs.declared.phase.Phase.{Phase}
use Rattle.osn_core.specs.declared.phase.Phase.TheVariants.{Ready, Draining, Claimed}
use Rattle.osn_core.specs.declared.reader.ReaderState.{ReaderState}
use Rattle.osn_core.specs.declared.reader.ReaderState.TheVariants.{Idle, Noted, Marked, Entered}
use Rattle.osn_core.specs.declared.reader.ReaderState.TheVariants.{Answered}
use Rattle.osn_core.specs.declared.step.Out.{Out}
use Rattle.osn_core.specs.declared.step.Out.TheVariants as Says
use Rattle.osn_core.specs.declared.step.Step.{Step}
use Rattle.osn_core.specs.declared.step.Step.TheVariants.{Look, Pin, Check, Answer, Leave, Stage}
use Rattle.osn_core.specs.declared.step.Step.TheVariants.{Publish, Claim, Absorb}
use Rattle.osn_core.specs.Sequential.{ObjectState, stage_refusal, publish_refusal, out_unless}
use Rattle.osn_core.specs.Sequential.{stage_out, stage_after, publish_out, publish_after}
use Rattle.osn_core.specs.Sequential.{state_unless, with_edition}
use Rattle.osn_core.specs.Control.{reader_at, look, pin, check, entering, leave, is_marked}
use Rattle.osn_core.specs.Control.{claim_out, absorb_out, out_at}
use Rattle.osn_core.specs.Machine.{CoreState, answer, out_in, out_of, core_in, with_published}
use Rattle.osn_core.specs.Machine.{core_after, outs_of}
use Rattle.osn_core.specs.History.{Call, Looks, looks_after, call_of, calls_of, ask_of, outs_to}
use Rattle.osn_core.specs.History.{is_editors, editor_outs}
use Rattle.osn_core.proofs.Runs.{stage_calls, publish_calls}

skips : (out : Out) (outs : List Out) → is_editors out ≡ false →
    editor_outs (out ∷ outs) ≡ editor_outs outs
skips out outs quiet = rw quiet refl

keeps : (out : Out) (outs : List Out) → is_editors out ≡ true →
    editor_outs (out ∷ outs) ≡ out ∷ editor_outs outs
keeps out outs loud = rw loud refl

look_quiet : (live : ℕ) (q : Query) (at : Option ReaderState) →
    is_editors (out_at (look live q) at) ≡ false
look_quiet live q None = refl
look_quiet live q (Some Idle) = refl
look_quiet live q (Some (Noted n side)) = refl
look_quiet live q (Some (Marked n side)) = refl
look_quiet live q (Some (Entered n side k)) = refl
look_quiet live q (Some (Answered side k)) = refl

pin_quiet : (at : Option ReaderState) → is_editors (out_at pin at) ≡ false
pin_quiet None = refl
pin_quiet (Some Idle) = refl
pin_quiet (Some (Noted q side)) = refl
pin_quiet (Some (Marked q side)) = refl
pin_quiet (Some (Entered q side k)) = refl
pin_quiet (Some (Answered side k)) = refl

entering_quiet : (b : Bool) (live n : ℕ) (q : Query) (side : ℕ) →
    is_editors (entering b live n q side).out ≡ false
entering_quiet true live n q side = refl
entering_quiet false live n q side = refl

check_quiet : (live n : ℕ) (at : Option ReaderState) → is_editors (out_at (check live n) at) ≡ false
check_quiet live n None = refl
check_quiet live n (Some Idle) = refl
check_quiet live n (Some (Noted q side)) = refl
check_quiet live n (Some (Marked q side)) = entering_quiet (side == live) live n q side
check_quiet live n (Some (Entered q side k)) = refl
check_quiet live n (Some (Answered side k)) = refl

answer_quiet : (p : Rules) (s : ObjectState) (a : ℕ) (at : Option ReaderState) →
    is_editors (out_at (answer p s a) at) ≡ false
answer_quiet p s a None = refl
answer_quiet p s a (Some Idle) = refl
answer_quiet p s a (Some (Noted q side)) = refl
answer_quiet p s a (Some (Marked q side)) = refl
answer_quiet p s a (Some (Entered q side k)) = refl
answer_quiet p s a (Some (Answered side k)) = refl

leave_quiet : (at : Option ReaderState) → is_editors (out_at leave at) ≡ false
leave_quiet None = refl
leave_quiet (Some Idle) = refl
leave_quiet (Some (Noted q side)) = refl
leave_quiet (Some (Marked q side)) = refl
leave_quiet (Some (Entered q side k)) = refl
leave_quiet (Some (Answered side k)) = refl

claim_quiet : (b : Bool) (phase : Phase) → is_editors (claim_out b phase) ≡ false
claim_quiet b Ready = refl
claim_quiet true Draining = refl
claim_quiet false Draining = refl
claim_quiet b Claimed = refl

absorb_quiet : (b : Bool) (phase : Phase) → is_editors (absorb_out b phase) ≡ false
absorb_quiet b Ready = refl
absorb_quiet b Draining = refl
absorb_quiet true Claimed = refl
absorb_quiet false Claimed = refl

stage_loud : (n : ℕ) (f : Option Refusal) → is_editors (out_unless f (Says.Staged n)) ≡ true
stage_loud n None = refl
stage_loud n (Some f) = refl

publish_loud : (n : ℕ) (f : Option Refusal) → is_editors (out_unless f (Says.Published n)) ≡ true
publish_loud n None = refl
publish_loud n (Some f) = refl

-- an ask gives the editor nothing
ask_skipped : (p : Rules) (s : ObjectState) (a : ℕ) (l : Option Query) (calls : List Call) →
    editor_outs (outs_to p s (ask_of l a ++ calls)) ≡ editor_outs (outs_to p s calls)
ask_skipped p s a None calls = refl
ask_skipped p s a (Some q) calls = refl

check_skipped : (p : Rules) (s : ObjectState) (looks : Looks) (a : ℕ) (out : Out)
    (calls : List Call) → editor_outs (outs_to p s (call_of looks (Check a) out ++ calls))
    ≡ editor_outs (outs_to p s calls)
check_skipped p s looks a Says.NotNow calls = refl
check_skipped p s looks a Says.Moved calls = refl
check_skipped p s looks a Says.Again calls = refl
check_skipped p s looks a Says.Entered calls = ask_skipped p s a (looks a) calls
check_skipped p s looks a Says.Ready calls = refl
check_skipped p s looks a (Says.Staged n) calls = refl
check_skipped p s looks a (Says.Published n) calls = refl
check_skipped p s looks a (Says.Refused f) calls = refl
check_skipped p s looks a (Says.Replied to reply) calls = refl

stage_same : (p : Rules) (looks : Looks) (c : CoreState) (e : Edit) (phase : Phase)
    (calls : List Call) (outs : List Out) →
    editor_outs outs
    ≡ editor_outs
    (outs_to p (core_in phase (record c { object = stage_after p c.object e }) c).object calls) →
    editor_outs (out_in phase (stage_out p c.object e) ∷ outs)
    ≡ editor_outs (outs_to p c.object
    (call_of looks (Stage e) (out_in phase (stage_out p c.object e)) ++ calls))
stage_same p looks c e Ready calls outs h =
    let n = length c.object.pending + 1 in
    let f = stage_refusal p c.object e in
    let out = stage_out p c.object e in
    keeps out outs (stage_loud n f)
    ∙ ap (λ os. out ∷ os) h
    ∙ sym (keeps out (outs_to p (stage_after p c.object e) calls) (stage_loud n f))
    ∙ sym (ap (λ cs. editor_outs (outs_to p c.object (cs ++ calls))) (stage_calls looks e n f))
stage_same p looks c e Draining calls outs h = h
stage_same p looks c e Claimed calls outs h = h

published_same : (p : Rules) (c : CoreState) (f : Option Refusal) → publish_refusal c.object ≡ f →
    (calls : List Call) → editor_outs (outs_to p (with_published f c).object calls)
    ≡ editor_outs (outs_to p (publish_after c.object) calls)
published_same p c None is calls = refl
published_same p c (Some g) is calls =
    sym (ap (λ f. editor_outs (outs_to p (state_unless f (with_edition c.object) c.object) calls))
    is)

publish_same : (p : Rules) (looks : Looks) (c : CoreState) (phase : Phase)
    (calls : List Call) (outs : List Out) →
    editor_outs outs
    ≡ editor_outs (outs_to p (core_in phase (with_published (publish_refusal c.object) c) c).object
    calls) →
    editor_outs (out_in phase (publish_out c.object) ∷ outs)
    ≡ editor_outs (outs_to p c.object (call_of looks Publish (out_in phase (publish_out c.object))
    ++ calls))
publish_same p looks c Ready calls outs h =
    let n = length c.object.batches + 1 in
    let f = publish_refusal c.object in
    let out = publish_out c.object in
    keeps out outs (publish_loud n f)
    ∙ ap (λ os. out ∷ os) (h ∙ published_same p c f refl calls)
    ∙ sym (keeps out (outs_to p (publish_after c.object) calls) (publish_loud n f))
    ∙ sym (ap (λ cs. editor_outs (outs_to p c.object (cs ++ calls))) (publish_calls looks n f))
publish_same p looks c Draining calls outs h = h
publish_same p looks c Claimed calls outs h = h

step_same : (p : Rules) (looks : Looks) (c : CoreState) (step : Step) (calls : List Call)
    (outs : List Out) →
    editor_outs outs ≡ editor_outs (outs_to p (core_after p c step).object calls) →
    editor_outs (out_of p c step ∷ outs)
    ≡ editor_outs (outs_to p c.object (call_of looks step (out_of p c step) ++ calls))
step_same p looks c (Look a q) calls outs h =
    skips _ outs (look_quiet c.control.side q (reader_at c.control.readers a)) ∙ h
step_same p looks c (Pin a) calls outs h =
    skips _ outs (pin_quiet (reader_at c.control.readers a)) ∙ h
step_same p looks c (Check a) calls outs h =
    let out = out_of p c (Check a) in
    skips out outs (check_quiet c.control.side (length c.object.batches)
    (reader_at c.control.readers a))
    ∙ h
    ∙ sym (check_skipped p c.object looks a out calls)
step_same p looks c (Answer a) calls outs h =
    skips _ outs (answer_quiet p c.object a (reader_at c.control.readers a)) ∙ h
step_same p looks c (Leave a) calls outs h =
    skips _ outs (leave_quiet (reader_at c.control.readers a)) ∙ h
step_same p looks c (Stage e) calls outs h = stage_same p looks c e c.control.phase calls outs h
step_same p looks c Publish calls outs h = publish_same p looks c c.control.phase calls outs h
step_same p looks c Claim calls outs h =
    skips _ outs (claim_quiet (is_marked (1 - c.control.side) c.control.readers) c.control.phase)
    ∙ h
step_same p looks c Absorb calls outs h =
    skips _ outs (absorb_quiet (c.control.lag == 0) c.control.phase) ∙ h

-- whatever the steps, the editor gets what the sequential object gives it
pub editor_outs_of_run : (p : Rules) (looks : Looks) (c : CoreState) (steps : List Step) →
    editor_outs (outs_of p c steps)
    ≡ editor_outs (outs_to p c.object (calls_of looks steps (outs_of p c steps)))
editor_outs_of_run p looks c [] = refl
editor_outs_of_run p looks c (s ∷ ss) =
    let out = out_of p c s in
    let after = core_after p c s in
    let later = looks_after looks s out in
    step_same p looks c s (calls_of later ss (outs_of p after ss)) (outs_of p after ss)
    (editor_outs_of_run p later after ss)
