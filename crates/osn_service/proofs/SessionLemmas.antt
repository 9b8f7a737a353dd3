-- How a session continues from one line to the next.
use Rattle.std.proofs.Common.{◌≡◌, ◌<◌, ◌∙◌, ℕ, Bool, true, false, List, [], ◌∷◌, ◌++◌, length}
use Rattle.std.proofs.Common.{Option, Some, Ok, Err, refl, sym, ap, subst}
use Rattle.osn_core.specs.Sequential.{ObjectState}
use Rattle.osn_service.specs.Outcome.{is_refused}
use Rattle.osn_service.specs.declared.rules.ServeRules.{ServeRules}
use Rattle.osn_service.specs.declared.session.Session.{Session}
use Rattle.osn_service.specs.declared.stop.Stop.{Stop}
use Rattle.osn_service.specs.declared.stop.Stop.TheVariants.{NoMemory, WriteFailed, NotKept}
use Rattle.osn_service.specs.declared.stop.Stop.TheVariants.{Refused}
use Rattle.osn_service.specs.declared.stop.UnwrittenReplies.{UnwrittenReplies}
use Rattle.osn_service.specs.Served.{after_lines}
use Rattle.osn_service.specs.ServiceInside.{full}
use Rattle.osn_service.specs.Session.{line_outcome, line_after}
use Rattle.osn_service.specs.SessionInside.{SessionState, session_state_of, AddsReply}
use Rattle.osn_service.specs.SessionInside.{AnswersNothing}
use Rattle.osn_service.specs.SessionInside.{Unwritten, TakenBack, Answers, HasAnswered, IsSame}
use Rattle.osn_service.specs.SessionInside.{HasServed, HasStopped}
use Rattle.osn_service.specs.Store.{KeepsSince}
use Rattle.osn_service.proofs.ServeLemmas.{HasAnswered-nothing, HasAnswered-settled}
use Rattle.osn_service.proofs.ServeLemmas.{HasAnswered-answered}
use Rattle.osn_service.proofs.ServeLemmas.{FailsToWrite-from, Unkept-from, NoneRefused-more}

-- two sessions that are the same as a third are the same
IsSame-then : {W S : Type 0} {initial s t : Session W S} → IsSame initial s → IsSame s t →
    IsSame initial t
IsSame-then h k = record {
  rules = k.rules ∙ h.rules;
  store = k.store ∙ h.store;
  sink = k.sink ∙ h.sink;
}

module _ {W S F : Type 0} (contents : W → Option (List ℕ)) (has_failed holds_back : W → Bool)
    (state : S → ObjectState) (lends has_kept : S → S → Type 0)
    (has_lost : S → ObjectState → S → F → Type 0) where
  -- what became of a session by lines, or why it stopped
  abbrev pub Served : Session W S → List (List ℕ) → Session W S → Type 0
  Served = HasServed contents has_failed holds_back state lends has_kept has_lost

  abbrev pub Stopped : Session W S → List (List ℕ) → Option (List ℕ) → Session W S → Stop F → Type 0
  Stopped = HasStopped contents has_failed holds_back state lends has_kept has_lost

  -- what a session has now
  abbrev now_of : Session W S → SessionState
  now_of = session_state_of contents has_failed state

  -- nothing is answered yet
  pub Served-nothing : (s : Session W S) → s.buffer.now.text.items ≡ [] →
      s.buffer.now.ends.items ≡ [] → Served s [] s
  Served-nothing s text ends = record {
    same = record { rules = refl; store = refl; sink = refl };
    lent = λ _ k. k;
    serving = HasAnswered-nothing s.rules (now_of s) text ends;
    spared = λ _. tt;
    keeps = λ _ k. k;
  }

  module _ (initial s t : Session W S) (before : List (List ℕ)) (h : Served initial before s)
      (same : IsSame s t) where
    -- nothing was answered, and nothing was written or all that waited
    pub Served-settled : KeepsSince lends s.store.now t.store.now
        → AnswersNothing (now_of s) (now_of t) →
        KeepsSince has_kept s.store.now t.store.now → Served initial before t
    Served-settled lent settled keeps = record {
      same = IsSame-then h.same same;
      lent = λ b k. lent b (h.lent b k);
      serving = HasAnswered-settled h.serving settled;
      spared = h.spared;
      keeps = λ b k. keeps b (h.keeps b k);
    }

    -- a write failed
    pub Stopped-unwritten : (at : Option (List ℕ)) (failed : UnwrittenReplies) →
        KeepsSince lends s.store.now t.store.now →
        Unwritten (now_of s) (now_of t) failed.unwritten →
        KeepsSince has_kept s.store.now t.store.now
        → Stopped initial before at t (WriteFailed failed)
    Stopped-unwritten at failed lent unwritten keeps = record {
      same = IsSame-then h.same same;
      lent = λ b k. lent b (h.lent b k);
      failing = FailsToWrite-from h.serving unwritten;
      keeps = λ b k. keeps b (h.keeps b k);
    }

    -- a line, once nothing was written or all that waited
    module _ (mid : SessionState) (line : List ℕ) (room : AnswersNothing (now_of s) mid)
        (less : length mid.buffer.text.items < full) where
      -- the lines before were answered, also once what waited was written
      ready : HasAnswered initial.rules (now_of initial) before mid
      ready = HasAnswered-settled h.serving room

      -- whether the line is refused, by the rules from the beginning
      same_refusal : is_refused (line_outcome s.rules mid.object line)
          ≡ is_refused (line_outcome initial.rules
          (after_lines initial.rules (state initial.store.now) before) line)
      same_refusal =
          ap (λ (r : ServeRules). is_refused (line_outcome r mid.object line)) h.same.rules
          ∙ ap (λ (o : ObjectState). is_refused (line_outcome initial.rules o line))
          ready.waits.reached

      -- what became of the line
      abbrev pub Replies : Bool → Type 0
      Replies refused =
          Answers lends has_kept has_lost (line_outcome s.rules mid.object line)
          (line_after s.rules mid.object line) mid (now_of t) (holds_back t.sink.now) s.store.now
          t.store.now (Ok refused)

      -- the reply to the line waits
      answered : {refused : Bool} → Replies refused →
          HasAnswered initial.rules (now_of initial) (before ++ line ∷ []) (now_of t)
      answered {refused} k =
          HasAnswered-answered line less ready
          (subst (λ (r : ServeRules). AddsReply (line_outcome r mid.object line)
          (line_after r mid.object line) mid (now_of t)) h.same.rules k.2)

      -- the line was answered, and is not the last
      pub Served-answered : {refused : Bool} → Replies refused →
          (s.rules.stop_at_refusal ≡ true → refused ≡ false) →
          Served initial (before ++ line ∷ []) t
      Served-answered {refused} k goes_on = record {
        same = IsSame-then h.same same;
        lent = λ b l. k.0 b (h.lent b l);
        serving = answered k;
        spared =
            λ asked.
            NoneRefused-more initial.rules (state initial.store.now) before line (h.spared asked)
            (sym same_refusal ∙ (sym k.1
            ∙ goes_on (ap (λ (r : ServeRules). r.stop_at_refusal) h.same.rules ∙ asked)));
        keeps = λ b l. k.3 b (h.keeps b l);
      }

      -- the line was refused, and is the last
      pub Stopped-refused : {refused : Bool} → Replies refused → refused ≡ true →
          s.rules.stop_at_refusal ≡ true → Stopped initial before (Some line) t Refused
      Stopped-refused {refused} k is asked =
          let stops = sym (ap (λ (r : ServeRules). r.stop_at_refusal) h.same.rules) ∙ asked in
          record {
            line = line;
            is = refl;
            same = IsSame-then h.same same;
            lent = λ b l. k.0 b (h.lent b l);
            serving = answered k;
            refused = record {
              stops_at_refusal = stops;
              none = h.spared stops;
              refused = sym same_refusal ∙ (sym k.1 ∙ is);
            };
            keeps = λ b l. k.3 b (h.keeps b l);
          }

      -- the line was not answered
      pub Stopped-unanswered : (why : Stop F) →
          Answers lends has_kept has_lost (line_outcome s.rules mid.object line)
          (line_after s.rules mid.object line) mid (now_of t) (holds_back t.sink.now) s.store.now
          t.store.now (Err why) → Stopped initial before (Some line) t why
      Stopped-unanswered NoMemory k = record {
        same = IsSame-then h.same same;
        lent = λ b l. k.0 b (h.lent b l);
        serving = HasAnswered-settled ready k.1.0;
        spared = h.spared;
        keeps = λ b l. k.1.1 b (h.keeps b l);
      }
      Stopped-unanswered (WriteFailed failed) k = record {
        same = IsSame-then h.same same;
        lent = λ b l. k.0 b (h.lent b l);
        failing = FailsToWrite-from ready k.1.0;
        keeps = λ b l. k.1.1 b (h.keeps b l);
      }
      Stopped-unanswered (NotKept why) k = record {
        line = line;
        is = refl;
        same = IsSame-then h.same same;
        lent = λ b l. k.0 b (h.lent b l);
        unkept =
            Unkept-from line ready
            (subst (λ (r : ServeRules). TakenBack (line_after r mid.object line) mid (now_of t)
            (holds_back t.sink.now)) h.same.rules k.1.1);
        spared = h.spared;
        fails =
            λ b l. subst (λ (o : ObjectState). has_lost b o t.store.now why) ready.waits.reached
            (k.1.2 b (h.keeps b l));
      }
      Stopped-unanswered Refused k = absurd k.1
