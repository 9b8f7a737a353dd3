-- How taking lines ended, as the service says it.
use Rattle.std.proofs.Common.{◌≡◌, ◌≤◌, ◌<◌, ◌+◌, ◌-◌, ◌∙◌, ℕ, Bool, true, List, [], ◌∷◌, ◌++◌}
use Rattle.std.proofs.Common.{Option, Some, None, Result, Ok, Err, IfSome, IfOk, length, take}
use Rattle.std.proofs.Common.{slice_get, sym, ap, subst, arith, add-one, length-append}
use Rattle.std.proofs.Math.Seq.{take-suc}
use Rattle.std.proofs.lemmas.List.{take_all}
use Rattle.std.proofs.lemmas.Option.{get_or_from_slice_get, slice_get_within}
use Rattle.std.specs.Io.KnownBytes.{IsAtEnd, Appends}
use Rattle.osn_core.specs.Sequential.{ObjectState}
use Rattle.osn_lines.specs.declared.fault.EndedEarly.{EndedEarly}
use Rattle.osn_lines.specs.declared.fault.TakeFault.{TakeFault}
use Rattle.osn_lines.specs.declared.fault.TakeFault.TheVariants as take
use Rattle.osn_lines.specs.Faults as fault
use Rattle.osn_lines.specs.Faults.{IsReadFault}
use Rattle.osn_lines.specs.Lines.{lines}
use Rattle.osn_lines.specs.Streams.{Input}
use Rattle.osn_lines.specs.Takers.{TakesAll, TakesFirst, TakesEnded, StopsAfter}
use Rattle.osn_service.specs.declared.fault.ServiceFault.{ServiceFault}
use Rattle.osn_service.specs.declared.fault.ServiceFault.TheVariants.{NotKept}
use Rattle.osn_service.specs.declared.rules.ServeRules.{ServeRules}
use Rattle.osn_service.specs.declared.service.LinesTaken.{LinesTaken}
use Rattle.osn_service.specs.declared.service.End.{End}
use Rattle.osn_service.specs.declared.service.End.TheVariants.{AtEnd, AtRefusal}
use Rattle.osn_service.specs.declared.session.Session.{Session}
use Rattle.osn_service.specs.declared.stop.Stop.{Stop}
use Rattle.osn_service.specs.declared.stop.Stop.TheVariants as stop
use Rattle.osn_service.specs.Refusals.{NoneRefused, IsFirstRefused}
use Rattle.osn_service.specs.Served.{line_text, outputs, after_lines, WritesFirst}
use Rattle.osn_service.specs.Served.{IsAfterLines}
use Rattle.osn_service.specs.ServiceInside.{InPart}
use Rattle.osn_service.specs.Session.{line_after}
use Rattle.osn_service.specs.SessionInside.{SessionState, session_state_of, FailsToWrite, IsSame}
use Rattle.osn_service.specs.SessionInside.{HasLost, HasRefused}
use Rattle.osn_service.specs.Sources.{KeepsSourceless}
use Rattle.osn_service.specs.Store.{KeepsSince}
use Rattle.osn_service.specs.TakingInside.{HasTaken, HasKept, IsWithin, AnswersFirst, AnswersInPart}
use Rattle.osn_service.specs.TakingInside.{SparedFirst, EndsTaking, early_end}
use Rattle.osn_service.proofs.ServeLemmas.{HasAnswered-few}
use Rattle.osn_service.proofs.SessionLemmas.{Served, Stopped, Served-nothing}
use Rattle.osn_service.proofs.SourceLemmas.{Sourceless-after, Sourceless-near}

-- what follows if a value is known
pub IfSome-weaker : {A : Type 0} (o : Option A) (P Q : A → Type 0) → ((x : A) → P x → Q x) →
    IfSome o P → IfSome o Q
IfSome-weaker None P Q f h = tt
IfSome-weaker (Some x) P Q f h = f x h

-- a fact of a value, if it is known, from two facts of it
pub IfSome-both : {A : Type 0} (o : Option A) (P Q R : A → Type 0) → ((x : A) → P x → Q x → R x) →
    IfSome o P → IfSome o Q → IfSome o R
IfSome-both None P Q R f h k = tt
IfSome-both (Some x) P Q R f h k = f x h k

-- the lines up to the one at a place are those before it, and that one
take_next : (all : List (List ℕ)) (n : ℕ) (line : List ℕ) → slice_get all n ≡ Some line →
    take (n + 1) all ≡ take n all ++ line ∷ []
take_next all n line h =
    ap (λ i. take i all) (add-one n)
    ∙ (take-suc all n line (slice_get_within all n line h)
    ∙ ap (λ l. take n all ++ l ∷ []) (get_or_from_slice_get all n line line h))

-- the first lines of an input are these, and this one is the next
record IsNext (all taken : List (List ℕ)) (line : List ℕ) (n : ℕ) : Type 0 where
  within : n < length all
  first : take n all ≡ taken
  more : take (n + 1) all ≡ taken ++ line ∷ []

-- the next line of an input, by its place
IsNext-from : (all taken : List (List ℕ)) (line : List ℕ) (n : ℕ) → take n all ≡ taken →
    slice_get all n ≡ Some line → IsNext all taken line n
IsNext-from all taken line n first next = record {
  within = slice_get_within all n line next;
  first = first;
  more = take_next all n line next ∙ ap (λ l. l ++ line ∷ []) first;
}

-- a write failed, and of the n lines that were taken this many replies are not written whole
pub AnswersInPart-from : {rules : ServeRules} {initial now : SessionState} {input : Option (List ℕ)}
    (n unwritten : ℕ) (taken : List (List ℕ)) → FailsToWrite rules initial taken now unwritten →
    n ≡ length taken → IfSome input (λ bytes. take n (lines bytes) ≡ taken) →
    AnswersInPart rules initial now input (n - unwritten)
AnswersInPart-from {rules} {initial} {now} {input} n unwritten taken h count first =
    let same : h.whole ≡ n - unwritten = omega (arith, h.count, count) in
    record {
      lines_taken = taken;
      part =
          subst (λ (m : ℕ). InPart (line_text rules) (line_after rules) initial.object now.object
          taken initial.written now.written m) same h.part;
      reason = h.reason;
      first = subst (λ (m : ℕ). IfSome input (λ bytes. take m (lines bytes) ≡ taken)) count first;
    }

-- no more replies wait than lines were taken
pub HasTaken-few : {F : Type 0} (rules : ServeRules) (initial now : SessionState)
    (holds_back : Bool)
    (i : Input) (taken : Result LinesTaken (EndedEarly (ServiceFault F))) →
    HasTaken rules initial now holds_back i taken →
    IfOk taken (λ taken. length now.buffer.ends.items ≤ taken.lines)
HasTaken-few rules initial now holds_back i (Ok taken) h =
    omega (arith, h.0.count, HasAnswered-few rules initial now h.0.lines_taken h.0.serving)
HasTaken-few rules initial now holds_back i (Err end) h = tt

module _ {W S F : Type 0} (contents : W → Option (List ℕ)) (has_failed holds_back : W → Bool)
    (state : S → ObjectState) (lends has_kept : S → S → Type 0)
    (has_lost : S → ObjectState → S → F → Type 0) (s t : Session W S) (i : Input) where
  -- what became of a session
  abbrev Serves : Session W S → List (List ℕ) → Session W S → Type 0
  Serves = Served contents has_failed holds_back state lends has_kept has_lost

  abbrev Stops : Session W S → List (List ℕ) → Option (List ℕ) → Session W S → Stop F → Type 0
  Stops = Stopped contents has_failed holds_back state lends has_kept has_lost

  abbrev Now : Session W S → SessionState
  Now = session_state_of contents has_failed state

  -- what one session became by lines, as a result says it
  pub record Ends (result : Result LinesTaken (EndedEarly (ServiceFault F))) : Type 0 where
    pub same : IsSame s t
    pub lent : KeepsSince lends s.store.now t.store.now
    pub sources : KeepsSourceless s.rules (state s.store.now) (state t.store.now)
    pub takes : HasTaken s.rules (Now s) (Now t) (holds_back t.sink.now) i result
    pub keeps : HasKept has_kept has_lost s.rules (state s.store.now) s.store.now t.store.now i
        result

  -- lines were answered, the first of the input
  answers_first : (taken : List (List ℕ)) (n : ℕ) → Serves s taken t → n ≡ length taken →
      IfSome i.bytes (λ bytes. take n (lines bytes) ≡ taken) →
      AnswersFirst s.rules (Now s) (Now t) i.bytes n
  answers_first taken n h count first = record {
    lines_taken = taken;
    serving = h.serving;
    count = count;
    first =
        subst (λ (m : ℕ). IfSome i.bytes (λ bytes. take m (lines bytes) ≡ taken)) count first;
  }

  -- none of the lines was refused if a refusal ends the service
  spared_first : (taken : List (List ℕ)) (n : ℕ) →
      (s.rules.stop_at_refusal ≡ true → NoneRefused s.rules (state s.store.now) taken) →
      IfSome i.bytes (λ bytes. take n (lines bytes) ≡ taken) →
      SparedFirst s.rules (state s.store.now) i.bytes n
  spared_first taken n spared first asked =
      IfSome-weaker i.bytes (λ bytes. take n (lines bytes) ≡ taken)
      (λ bytes. NoneRefused s.rules (state s.store.now) (take n (lines bytes)))
      (λ bytes e. subst (NoneRefused s.rules (state s.store.now)) (sym e) (spared asked)) first

  -- lines of which the last was refused, or the change of the next was not kept
  nexts : (taken : List (List ℕ)) (at : Option (List ℕ)) (line : List ℕ) (n : ℕ) →
      at ≡ Some line → IfSome i.bytes (λ bytes. take n (lines bytes) ≡ taken) →
      IfSome i.bytes (λ bytes. IfSome at (λ line. slice_get (lines bytes) n ≡ Some line)) →
      IfSome i.bytes (λ bytes. IsNext (lines bytes) taken line n)
  nexts taken at line n is first next =
      IfSome-both i.bytes (λ bytes. take n (lines bytes) ≡ taken)
      (λ bytes. slice_get (lines bytes) n ≡ Some line)
      (λ bytes. IsNext (lines bytes) taken line n)
      (λ bytes e k. IsNext-from (lines bytes) taken line n e k) first
      (subst (λ (o : Option (List ℕ)). IfSome i.bytes (λ bytes. IfSome o
      (λ line. slice_get (lines bytes) n ≡ Some line))) is next)

  -- the change of a line was not kept
  ends_lost : (n : ℕ) (taken : List (List ℕ)) (at : Option (List ℕ)) (why : F) →
      HasLost contents has_failed holds_back state lends has_kept has_lost s taken at t why →
      n ≡ length taken → IfSome i.bytes (λ bytes. take n (lines bytes) ≡ taken) →
      IfSome i.bytes (λ bytes. IfSome at (λ line. slice_get (lines bytes) n ≡ Some line)) →
      i.unread ≡ i.unread_before → Ends (Err (record { lines = n; cause = NotKept why }))
  ends_lost n taken at why h count first next source =
      let object = state s.store.now in
      let next = nexts taken at h.line n h.is first next in
      record {
        same = h.same;
        lent = h.lent;
        sources =
            Sourceless-after s.rules object (state t.store.now) (taken ++ h.line ∷ [])
            h.unkept.reached;
        takes = record {
          written =
              IfSome-weaker i.bytes (λ bytes. IsNext (lines bytes) taken h.line n)
              (λ bytes. WritesFirst s.rules object (contents s.sink.now) (contents t.sink.now)
              (lines bytes) n)
              (λ bytes k. record {
                enough = omega (arith, k.within);
                written =
                    subst (λ (l : List (List ℕ)). Appends (contents s.sink.now)
                    (contents t.sink.now) (outputs s.rules object l)) (sym k.first)
                    h.unkept.written;
              }) next;
          next =
              IfSome-weaker i.bytes (λ bytes. IsNext (lines bytes) taken h.line n)
              (λ bytes. n < length (lines bytes)) (λ bytes k. k.within) next;
          object =
              IfSome-weaker i.bytes (λ bytes. IsNext (lines bytes) taken h.line n)
              (λ bytes. IsAfterLines s.rules object (state t.store.now) (lines bytes) (n + 1))
              (λ bytes k. h.unkept.reached ∙ ap (after_lines s.rules object) (sym k.more)) next;
          none = spared_first taken n h.spared first;
          passed = h.unkept.passed;
          source = source;
          sink = h.unkept.sound;
        };
        keeps = (
          after_lines s.rules object taken,
          IfSome-weaker i.bytes (λ bytes. take n (lines bytes) ≡ taken)
              (λ bytes. after_lines s.rules object taken
              ≡ after_lines s.rules object (take n (lines bytes)))
              (λ bytes e. ap (after_lines s.rules object) (sym e)) first,
          h.fails,
        );
      }

  -- a line was refused and ended the service
  ends_refused : (n : ℕ) (taken : List (List ℕ)) (at : Option (List ℕ)) →
      HasRefused contents has_failed holds_back state lends has_kept has_lost s taken at t →
      n ≡ length taken → IfSome i.bytes (λ bytes. take n (lines bytes) ≡ taken) →
      IfSome i.bytes (λ bytes. IfSome at (λ line. slice_get (lines bytes) n ≡ Some line)) →
      i.unread ≡ i.unread_before → Ends (Ok (record { lines = n + 1; end = AtRefusal }))
  ends_refused n taken at h count first next source =
      let all = taken ++ h.line ∷ [] in
      let next = nexts taken at h.line n h.is first next in
      let more : n + 1 ≡ length all = omega (arith, count, length-append taken (h.line ∷ [])) in
      record {
        same = h.same;
        lent = h.lent;
        sources =
            Sourceless-after s.rules (state s.store.now) (state t.store.now) all
            h.serving.waits.reached;
        takes = (
          record {
            lines_taken = all;
            serving = h.serving;
            count = more;
            first =
                subst (λ (m : ℕ). IfSome i.bytes (λ bytes. take m (lines bytes) ≡ all)) more
                (IfSome-weaker i.bytes (λ bytes. IsNext (lines bytes) taken h.line n)
                (λ bytes. take (n + 1) (lines bytes) ≡ all) (λ bytes k. k.more) next);
          },
          (
            h.refused.stops_at_refusal,
            IfSome-weaker i.bytes (λ bytes. IsNext (lines bytes) taken h.line n)
                (λ bytes. IsFirstRefused s.rules (state s.store.now) (lines bytes) (n + 1))
                (λ bytes k. record {
                  before = taken;
                  line = h.line;
                  split = k.more;
                  none = h.refused.none;
                  refused = h.refused.refused;
                }) next,
            source,
          ),
        );
        keeps = h.keeps;
      }

  -- lines were answered, and taking lines ended so, but not at a refused line or a change that was
  -- not kept
  ends_served : (n : ℕ) (taken : List (List ℕ)) (end : End) → Serves s taken t →
      n ≡ length taken → IfSome i.bytes (λ bytes. take n (lines bytes) ≡ taken) →
      (SparedFirst s.rules (state s.store.now) i.bytes n →
      EndsTaking s.rules (state s.store.now) i n end) →
      Ends (Ok (record { lines = n; end = end }))
  ends_served n taken end h count first ends = record {
    same = h.same;
    lent = h.lent;
    sources =
        Sourceless-after s.rules (state s.store.now) (state t.store.now) taken
        h.serving.waits.reached;
    takes = (answers_first taken n h count first, ends (spared_first taken n h.spared first));
    keeps = h.keeps;
  }

  -- why no more lines were taken
  abbrev pub Ended : ℕ → TakeFault (Stop F) → Type 0
  Ended n cause =
      fault.MatchFault cause (TakesFirst Serves s t i.bytes n)
      (TakesEnded Serves s t i.bytes i.rest n) (StopsAfter Serves Stops s t i.bytes n)

  -- why the source failed or did not
  abbrev pub EndsSource : TakeFault (Stop F) → Type 0
  EndsSource cause =
      fault.MatchFault cause (i.unread ≡ i.unread_before) (IsReadFault i.unread i.bytes)
      (λ _. i.unread ≡ i.unread_before)

  module _ (text : s.buffer.now.text.items ≡ []) (ends : s.buffer.now.ends.items ≡ []) where
    -- nothing was taken at first
    none : Serves s [] s
    none = Served-nothing contents has_failed holds_back state lends has_kept has_lost s text ends

    -- the replies that were not written are no more than the lines that were taken
    pub IsWithin-ended : (n : ℕ) (cause : TakeFault (Stop F)) → Ended n cause → IsWithin n cause
    IsWithin-ended n take.NoMemory h = tt
    IsWithin-ended n take.ReadFault h = tt
    IsWithin-ended n (take.Stopped stop.NoMemory) h = tt
    IsWithin-ended n (take.Stopped (stop.WriteFailed failed)) h =
        let k = h.stops s [] none in
        omega (arith, k.failing.count, h.count)
    IsWithin-ended n (take.Stopped (stop.NotKept why)) h = tt
    IsWithin-ended n (take.Stopped stop.Refused) h = tt

    -- taking lines ended early
    pub Ends-early : (n : ℕ) (cause : TakeFault (Stop F)) → Ended n cause → EndsSource cause →
        Ends (early_end n cause)
    Ends-early n take.NoMemory h source =
        ends_served n h.lines_taken _ (h.takes s [] none) h.count h.first
        (λ spared. (source, spared))
    Ends-early n take.ReadFault h source =
        let f = h.first in
        ends_served n f.lines_taken _ (f.takes s [] none) f.count f.first
        (λ spared. (h.read, source, spared))
    Ends-early n (take.Stopped stop.NoMemory) h source =
        ends_served n h.lines_taken _ (h.stops s [] none) h.count h.first
        (λ spared. (source, spared))
    Ends-early n (take.Stopped (stop.WriteFailed failed)) h source =
        let k = h.stops s [] none in
        record {
          same = k.same;
          lent = k.lent;
          sources =
              Sourceless-near s.rules (state s.store.now) (state t.store.now)
              (take k.failing.whole h.lines_taken) (take (k.failing.whole + 1) h.lines_taken)
              k.failing.part.reached;
          takes = AnswersInPart-from n failed.unwritten h.lines_taken k.failing h.count h.first;
          keeps = k.keeps;
        }
    Ends-early n (take.Stopped (stop.NotKept why)) h source =
        ends_lost n h.lines_taken h.at why (h.stops s [] none) h.count h.first h.next source
    Ends-early n (take.Stopped stop.Refused) h source =
        ends_refused n h.lines_taken h.at (h.stops s [] none) h.count h.first h.next source

    -- all lines were taken
    pub Ends-all : (n : ℕ) → TakesAll Serves s t i.bytes n → IsAtEnd i.rest →
        i.unread ≡ i.unread_before → Ends (Ok (record { lines = n; end = AtEnd }))
    Ends-all n h end source =
        ends_served n h.lines_taken AtEnd (h.takes s [] none) h.count
        (IfSome-weaker i.bytes (λ bytes. lines bytes ≡ h.lines_taken)
        (λ bytes. take n (lines bytes) ≡ h.lines_taken)
        (λ bytes e. ap (take n) e ∙ take_all n h.lines_taken (omega (arith, h.count))) h.all)
        (λ spared. (
          IfSome-weaker i.bytes (λ bytes. lines bytes ≡ h.lines_taken)
              (λ bytes. n ≡ length (lines bytes)) (λ bytes e. h.count ∙ ap length (sym e)) h.all,
          end,
          source,
          spared,
        ))
