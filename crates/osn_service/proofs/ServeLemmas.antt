-- How serving lines continues from one moment to the next.
use Rattle.std.proofs.Common.{◌≡◌, ◌≤◌, ◌<◌, ◌-◌, ◌∙◌, ℕ, Bool, false, List, [], ◌∷◌, ◌++◌, length}
use Rattle.std.proofs.Common.{fold, Option, refl, sym, ap, subst, length-append, arith}
use Rattle.std.proofs.Common.{⊎_elim, inl, inr}
use Rattle.osn_core.specs.Sequential.{ObjectState}
use Rattle.osn_lines.specs.Faults.{WriteFails}
use Rattle.osn_service.specs.Outcome.{is_refused}
use Rattle.osn_service.specs.declared.reply_buffer.ReplyBuffer.{ReplyBuffer}
use Rattle.osn_service.specs.declared.rules.ServeRules.{ServeRules}
use Rattle.osn_service.specs.Faults.{HasLongReply, RepliesFail}
use Rattle.osn_service.specs.Refusals.{NoneRefused}
use Rattle.osn_service.specs.Served.{line_text, after_lines}
use Rattle.osn_service.specs.ServiceInside.{full, InPart, Adds, Settles}
use Rattle.osn_service.specs.Session.{line_after, line_outcome}
use Rattle.osn_service.specs.SessionInside.{SessionState, AddsReply, AnswersNothing, Unwritten}
use Rattle.osn_service.specs.SessionInside.{TakenBack}
use Rattle.osn_service.specs.SessionInside.{IsShort, HasAnswered, FailsToWrite, Unkept}
use Rattle.osn_service.proofs.PartLemmas.{PartOf-from}
use Rattle.osn_service.proofs.WaitLemmas.{length-ends, Waits-nothing, Waits-add}
use Rattle.osn_service.proofs.WaitLemmas.{Waits-settle, Waits-written, after_one}

-- if what waits is too long for the writes that are made, the reply to one of the lines is too long
-- for them
long_of : (rules : ServeRules) (s : ObjectState) (lines : List (List ℕ)) (text : List ℕ) →
    IsShort rules s lines text → 4294967295 ≤ length text → HasLongReply rules s lines
long_of rules s lines text (inl less) le = absurd (omega (arith, less, le))
long_of rules s lines text (inr k) le = record {
  before = k.before;
  line = k.line;
  rest = k.rest;
  split = k.split;
  long = omega (arith, k.long, le);
}

-- a failed write of what waits
RepliesFail-from : (rules : ServeRules) (s : ObjectState) (lines : List (List ℕ))
    (text : List ℕ) (old mid new : Bool) → mid ≡ old → IsShort rules s lines text →
    WriteFails mid new text → RepliesFail rules s old new lines
RepliesFail-from rules s lines text old mid new same short h =
    ⊎_elim (λ k. inl k) (λ k. inr (k.0 ∙ same, long_of rules s lines text short k.1)) h

-- another reply, if fewer bytes waited than are written together
reply_more : (old new reply : List ℕ) → new ≡ old ++ reply → length old < full →
    length new - 65535 ≤ length reply
reply_more old new reply more less = omega (arith, ap length more, length-append old reply, less)

-- a reply alone
reply_alone : (new reply : List ℕ) → new ≡ reply → length new - 65535 ≤ length reply
reply_alone new reply is = omega (arith, ap length is)

-- a reply that was added
reply_added : {S : Type 0} (s u : S) (reply : List ℕ) (a b : Option (List ℕ)) (w w' : ReplyBuffer)
    → length w.text.items < full → Adds s u reply a b w w' →
    length w'.text.items - 65535 ≤ length reply
reply_added s u reply a b w w' less adds =
    ⊎_elim (λ k. reply_more w.text.items w'.text.items reply k.2.text less)
    (λ k. reply_alone w'.text.items reply k.1) adds

-- what waits still, or nothing
IsShort-settled : (rules : ServeRules) (s : ObjectState) (lines : List (List ℕ))
    (a b : Option (List ℕ)) (w w' : ReplyBuffer) → IsShort rules s lines w.text.items →
    Settles a b w w' → IsShort rules s lines w'.text.items
IsShort-settled rules s lines a b w w' short settles =
    ⊎_elim (λ k. subst (IsShort rules s lines) (sym k.1) short)
    (λ k. subst (IsShort rules s lines) (sym k.text) (inl (omega arith))) settles

-- nothing is answered yet
pub HasAnswered-nothing : (rules : ServeRules) (s : SessionState) → s.buffer.text.items ≡ [] →
    s.buffer.ends.items ≡ [] → HasAnswered rules s [] s
HasAnswered-nothing rules s text ends = record {
  waits =
      Waits-nothing (line_text rules) (line_after rules) s.object s.written s.buffer text ends;
  short = subst (IsShort rules s.object []) (sym text) (inl (omega arith));
  sound = refl;
}

module _ {rules : ServeRules} {initial s t : SessionState} {lines : List (List ℕ)} where
  -- nothing was written, or all that waited
  pub HasAnswered-settled : HasAnswered rules initial lines s → AnswersNothing s t
      → HasAnswered rules initial lines t
  HasAnswered-settled h k = record {
    waits =
        Waits-settle (line_text rules) (line_after rules) initial.object s.object t.object lines
        initial.written s.written t.written s.buffer t.buffer h.waits k.settles k.object;
    short =
        IsShort-settled rules initial.object lines s.written t.written s.buffer t.buffer h.short
        k.settles;
    sound = k.sound ∙ h.sound;
  }

  -- a line was answered
  pub HasAnswered-answered : (line : List ℕ) → length s.buffer.text.items < full →
      HasAnswered rules initial lines s →
      AddsReply (line_outcome rules s.object line) (line_after rules s.object line) s t →
      HasAnswered rules initial (lines ++ line ∷ []) t
  HasAnswered-answered line less h k = record {
    waits =
        Waits-add (line_text rules) (line_after rules) initial.object s.object t.object _ lines line
        initial.written s.written t.written s.buffer t.buffer h.waits k.adds refl k.object;
    short = inr (record {
      before = lines;
      line = line;
      rest = [];
      split = refl;
      long =
          subst (λ (o : ObjectState). length t.buffer.text.items - 65535
          ≤ length (line_text rules o line)) h.waits.reached
          (reply_added s.object t.object (line_text rules s.object line) s.written t.written
          s.buffer t.buffer less k.adds);
    });
    sound = k.sound ∙ h.sound;
  }

  -- a write failed
  pub FailsToWrite-from : {unwritten : ℕ} → HasAnswered rules initial lines s
      → Unwritten s t unwritten →
      FailsToWrite rules initial lines t unwritten
  FailsToWrite-from {unwritten} h k =
      let text = line_text rules in
      let after = line_after rules in
      let part = PartOf-from text after initial.object s.object lines initial.written s.written
      t.written s.buffer unwritten h.waits k.some in
      record {
        whole = part.n;
        count = part.count;
        part =
            subst (λ (o : ObjectState). InPart text after initial.object o lines initial.written
            t.written part.n) (sym k.object) part.part;
        reason = RepliesFail-from _ _ _ _ _ _ _ h.sound h.short k.reason;
      }

  -- the change of a line was not kept
  pub Unkept-from : {holds_back : Bool} (line : List ℕ) → HasAnswered rules initial lines s →
      TakenBack (line_after rules s.object line) s t holds_back →
      Unkept rules initial lines line t holds_back
  Unkept-from line h k = record {
    written =
        Waits-written (line_text rules) (line_after rules) initial.object s.object lines
        initial.written s.written t.written s.buffer h.waits k.written;
    none = k.none;
    sound = k.sound ∙ h.sound;
    passed = k.passed;
    reached =
        after_one (line_after rules) initial.object s.object t.object lines line h.waits.reached
        k.object;
  }

-- no more replies wait than lines were answered
pub HasAnswered-few : (rules : ServeRules) (initial s : SessionState) (lines : List (List ℕ)) →
    HasAnswered rules initial lines s → length s.buffer.ends.items ≤ length lines
HasAnswered-few rules initial s lines h =
    let w = h.waits in
    omega (
      arith,
      ap length w.split,
      length-append w.done w.rest,
      ap length w.places,
      length-ends (line_text rules) (line_after rules) 0
          (fold (line_after rules) initial.object w.done) w.rest,
    )

-- another line, which is not refused
pub NoneRefused-more : (rules : ServeRules) (s : ObjectState) (lines : List (List ℕ))
    (line : List ℕ) → NoneRefused rules s lines →
    is_refused (line_outcome rules (after_lines rules s lines) line) ≡ false →
    NoneRefused rules s (lines ++ line ∷ [])
NoneRefused-more rules s [] line h e = (e, tt)
NoneRefused-more rules s (x ∷ xs) line h e =
    (h.0, NoneRefused-more rules (line_after rules s x) xs line h.1 e)
