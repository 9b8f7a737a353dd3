-- What a service has done, by the lines that were taken and the replies that were written after
-- that.
use Rattle.std.proofs.Common.{◌≡◌, ◌<◌, ◌-◌, ◌∙◌, ℕ, Bool, false, List, [], ◌∷◌, ◌++◌, Option}
use Rattle.std.proofs.Common.{Ok, Err, IfSome, length, take, drop, refl, sym, ap, subst}
use Rattle.std.proofs.Common.{append_assoc, length-append, length-take, arith, ⊎_elim, inl, inr}
use Rattle.std.proofs.lemmas.List.{take-append-drop, take_all}
use Rattle.std.specs.Io.KnownBytes.{Appends}
use Rattle.std.specs.Prelude.{⊤}
use Rattle.serde_json.specs.Written.{compact_text}
use Rattle.osn_core.specs.Sequential.{ObjectState}
use Rattle.osn_lines.specs.declared.fault.EndedEarly.{EndedEarly}
use Rattle.osn_lines.specs.Faults.{WriteFails}
use Rattle.osn_lines.specs.Lines.{lines}
use Rattle.osn_lines.specs.Streams.{Input}
use Rattle.osn_service.specs.ReplyText.{reply_line, outcome_data}
use Rattle.osn_service.specs.declared.fault.ServeFault.{ServeFault}
use Rattle.osn_service.specs.declared.fault.ServeFault.TheVariants.{NoMemory, ReadFault, WriteFault}
use Rattle.osn_service.specs.declared.fault.ServiceFault.{ServiceFault}
use Rattle.osn_service.specs.declared.fault.ServiceFault.TheVariants.{Serve, NotKept}
use Rattle.osn_service.specs.declared.rules.ServeRules.{ServeRules}
use Rattle.osn_service.specs.declared.service.End.TheVariants.{AtEnd, AtRefusal, ByFault}
use Rattle.osn_service.specs.Faults.{HasLongReply}
use Rattle.osn_service.specs.Refusals.{NoneRefused}
use Rattle.osn_service.specs.Served.{line_text, outputs, after_lines, WritesAll, WritesFirst}
use Rattle.osn_service.specs.Served.{WritesInPart, IsStateAfter, IsAfterLines, IsAfterOrNext}
use Rattle.osn_service.specs.Serves.{Serves, RefusesNone, ServesToRefusal, ServesStore}
use Rattle.osn_service.specs.ServiceInside.{InPart, WritesSome}
use Rattle.osn_service.specs.Session.{line_after, line_outcome}
use Rattle.osn_service.specs.SessionInside.{SessionState}
use Rattle.osn_service.specs.TakingInside.{AnswersFirst, AnswersInPart, EndsTaking, HasTaken}
use Rattle.osn_service.specs.TakingInside.{output_since}
use Rattle.osn_service.proofs.PartLemmas.{InPart-more}
use Rattle.osn_service.proofs.ServeLemmas.{FailsToWrite-from}
use Rattle.osn_service.proofs.TakingLemmas.{IfSome-weaker, IfSome-both, AnswersInPart-from}
use Rattle.osn_service.proofs.WaitLemmas.{Waits-written}

-- no reply is empty
some_text : (rules : ServeRules) (s : ObjectState) (line : List ℕ) →
    0 < length (line_text rules s line)
unfolding reply_line
some_text rules s line =
    omega (
      arith,
      length-append (compact_text (outcome_data (line_outcome rules s line))) (10 ∷ []),
    )

-- ---- a write failed

module _ {rules : ServeRules} {initial now : SessionState} {n : ℕ} (i : Input)
    (h : AnswersInPart rules initial now i.bytes n) where
  -- all lines are those that were answered and those after them
  whole : (all : List (List ℕ)) → take (length h.lines_taken) all ≡ h.lines_taken →
      h.lines_taken ++ drop (length h.lines_taken) all ≡ all
  whole all e =
      ap (λ l. l ++ drop (length h.lines_taken) all) (sym e)
      ∙ take-append-drop (length h.lines_taken) all

  -- a prefix of the replies to all lines is written
  part_of_all : (all : List (List ℕ)) → take (length h.lines_taken) all ≡ h.lines_taken →
      InPart (line_text rules) (line_after rules) initial.object now.object all initial.written
      now.written n
  part_of_all all e =
      subst (λ (l : List (List ℕ)). InPart (line_text rules) (line_after rules) initial.object
      now.object l initial.written now.written n) (whole all e)
      (InPart-more (line_text rules) (line_after rules) (some_text rules) initial.object now.object
      h.lines_taken (drop (length h.lines_taken) all) _ _ n h.part)

  -- the reply to one of the lines that were taken is too long
  long : HasLongReply rules initial.object h.lines_taken →
      IfSome i.bytes (λ bytes. HasLongReply rules initial.object (lines bytes))
  long k =
      IfSome-weaker i.bytes (λ bytes. take (length h.lines_taken) (lines bytes) ≡ h.lines_taken)
      (λ bytes. HasLongReply rules initial.object (lines bytes))
      (λ bytes e.
      let rest = drop (length h.lines_taken) (lines bytes) in
      record {
        before = k.before;
        line = k.line;
        rest = k.rest ++ rest;
        split =
            sym (whole (lines bytes) e)
            ∙ (ap (λ l. l ++ rest) k.split ∙ append_assoc k.before (k.line ∷ k.rest) rest);
        long = k.long;
      })
      h.first

  -- what the service has done when a write failed
  pub Serves-in_part : (holds_back : Bool) →
      Serves rules initial.object now.object i
      (output_since initial now.written now.failed holds_back)
      (Err (record { lines = n; cause = WriteFault }))
      × RefusesNone rules initial.object i (Err (record { lines = n; cause = WriteFault }))
  Serves-in_part holds_back = (
    record {
      written =
          IfSome-weaker i.bytes (λ bytes. take (length h.lines_taken) (lines bytes) ≡ h.lines_taken)
          (λ bytes. WritesInPart rules initial.object initial.written now.written (lines bytes) n)
          (λ bytes e.
          let k = part_of_all (lines bytes) e in
          record {
            bytes = k.bytes;
            enough = k.enough;
            written = k.written;
            whole = k.whole;
            no_more = k.no_more;
          }) h.first;
      object =
          IfSome-weaker i.bytes (λ bytes. take (length h.lines_taken) (lines bytes) ≡ h.lines_taken)
          (λ bytes. IsAfterOrNext rules initial.object now.object (lines bytes) n)
          (λ bytes e. ⊎_elim (λ k. inl k) (λ k. inr k.1) (part_of_all (lines bytes) e).reached)
          h.first;
      passed = tt;
      read = tt;
      source = tt;
      sink = ⊎_elim (λ k. inl k) (λ k. inr (long k.1)) h.reason;
    },
    λ asked. IfSome-weaker i.bytes
        (λ bytes. take (length h.lines_taken) (lines bytes) ≡ h.lines_taken)
        (λ bytes. ⊤) (λ bytes e. tt) h.first,
  )

-- a write failed while lines were taken, or a change was not kept, which is passed on
module _ {F : Type 0} (rules : ServeRules) (initial now : SessionState) (holds_back : Bool)
    (i : Input) where
  -- what the service has done, by the reason
  passed : (n : ℕ) (cause : ServiceFault F) →
      HasTaken rules initial now holds_back i (Err (record { lines = n; cause = cause })) →
      ServesStore rules initial.object now.object i
      (output_since initial now.written now.failed holds_back)
      (Err (record { lines = n; cause = cause }))
  passed n (Serve NoMemory) h = absurd h
  passed n (Serve ReadFault) h = absurd h
  passed n (Serve WriteFault) h = Serves-in_part i h holds_back
  passed n (NotKept why) h = h

  -- what the service has done, for either end
  pub Serves-passed : (end : EndedEarly (ServiceFault F)) →
      HasTaken rules initial now holds_back i (Err end) →
      ServesStore rules initial.object now.object i
      (output_since initial now.written now.failed holds_back) (Err end)
  Serves-passed end h = passed end.lines end.cause h

-- ---- what waits must be written then

module _ {rules : ServeRules} {initial now : SessionState} {n : ℕ} (i : Input)
    (h : AnswersFirst rules initial now i.bytes n) where
  -- the lines that were taken are the first lines of the input, by their number
  firsts : IfSome i.bytes (λ bytes. take n (lines bytes) ≡ h.lines_taken)
  firsts =
      subst (λ (m : ℕ). IfSome i.bytes (λ bytes. take m (lines bytes) ≡ h.lines_taken))
      (sym h.count)
      h.first

  -- a write of the replies that wait failed
  pub Serves-unwritten : (new : Option (List ℕ)) (failed : Bool) (unwritten : ℕ)
      (holds_back : Bool) → WritesSome now.written new now.buffer unwritten →
      WriteFails now.failed failed now.buffer.text.items →
      Serves rules initial.object now.object i (output_since initial new failed holds_back)
      (Err (record { lines = n - unwritten; cause = WriteFault }))
      × RefusesNone rules initial.object i
      (Err (record { lines = n - unwritten; cause = WriteFault }))
  Serves-unwritten new failed unwritten holds_back some reason =
      let later : SessionState = record now { written = new; failed = failed } in
      Serves-in_part {now = later} i
      (AnswersInPart-from n unwritten h.lines_taken
      (FailsToWrite-from {t = later} h.serving (record {
        some = some;
        object = refl;
        reason =
            reason;
      }))
      h.count firsts) holds_back

  -- the replies that wait were written
  module _ (new : Option (List ℕ)) (unwritten holds_back : Bool)
      (written : Appends now.written new now.buffer.text.items) (sound : unwritten ≡ now.failed)
      (passed_on : holds_back ≡ false) where
    -- the replies to the first lines are written
    first_written : IfSome i.bytes (λ bytes. WritesFirst rules initial.object initial.written new
        (lines bytes) n)
    first_written =
        IfSome-weaker i.bytes (λ bytes. take n (lines bytes) ≡ h.lines_taken)
        (λ bytes. WritesFirst rules initial.object initial.written new (lines bytes) n)
        (λ bytes e. record {
          enough = omega (arith, h.count, ap length e, length-take n (lines bytes));
          written =
              subst (λ (l : List (List ℕ)). Appends initial.written new
              (outputs rules initial.object l)) (sym e)
              (Waits-written (line_text rules) (line_after rules) initial.object now.object
              h.lines_taken
              initial.written now.written new now.buffer h.serving.waits written);
        }) firsts

    -- the object is in the state after the first lines
    first_reached : IfSome i.bytes
        (λ bytes. IsAfterLines rules initial.object now.object (lines bytes) n)
    first_reached =
        IfSome-weaker i.bytes (λ bytes. take n (lines bytes) ≡ h.lines_taken)
        (λ bytes. IsAfterLines rules initial.object now.object (lines bytes) n)
        (λ bytes e. h.serving.waits.reached ∙ ap (after_lines rules initial.object) (sym e)) firsts

    -- all lines were answered
    pub Serves-all : EndsTaking rules initial.object i n AtEnd →
        Serves rules initial.object now.object i (output_since initial new unwritten holds_back)
        (Ok n)
        × RefusesNone rules initial.object i (Ok n)
    Serves-all end =
        let all : (bytes : List ℕ) → n ≡ length (lines bytes) → take n (lines bytes) ≡ lines bytes =
        λ bytes count. take_all n (lines bytes) (omega (arith, count)) in (
          record {
            written =
                IfSome-both i.bytes
                (λ bytes. WritesFirst rules initial.object initial.written new (lines bytes) n)
                (λ bytes. n ≡ length (lines bytes))
                (λ bytes. WritesAll rules initial.object initial.written new (lines bytes) n)
                (λ bytes k count. record {
                  count = count;
                  written =
                      subst (λ (l : List (List ℕ)). Appends initial.written new
                      (outputs rules initial.object l)) (all bytes count) k.written;
                }) first_written end.0;
            object =
                IfSome-both i.bytes
                (λ bytes. IsAfterLines rules initial.object now.object (lines bytes) n)
                (λ bytes. n ≡ length (lines bytes))
                (λ bytes. IsStateAfter rules initial.object now.object (lines bytes))
                (λ bytes k count. k ∙ ap (after_lines rules initial.object) (all bytes count))
                first_reached end.0;
            passed = passed_on;
            read = end.1;
            source = end.2;
            sink = sound ∙ h.serving.sound;
          },
          λ asked. IfSome-both i.bytes
              (λ bytes. NoneRefused rules initial.object (take n (lines bytes)))
              (λ bytes. n ≡ length (lines bytes))
              (λ bytes. NoneRefused rules initial.object (lines bytes))
              (λ bytes k count. subst (NoneRefused rules initial.object) (all bytes count) k)
              (end.3 asked) end.0,
        )

    -- the last of the lines was refused and ended the service
    pub Serves-refused : EndsTaking rules initial.object i n AtRefusal →
        ServesToRefusal rules initial.object now.object i
        (output_since initial new unwritten holds_back) n
    Serves-refused end = record {
      stops_at_refusal = end.0;
      written = first_written;
      object = first_reached;
      first = end.1;
      passed = passed_on;
      source = end.2;
      sink = sound ∙ h.serving.sound;
    }

    -- some lines were answered
    pub Serves-first : (cause : ServeFault) → EndsTaking rules initial.object i n (ByFault cause) →
        Serves rules initial.object now.object i (output_since initial new unwritten holds_back)
        (Err (record { lines = n; cause = cause }))
        × RefusesNone rules initial.object i (Err (record { lines = n; cause = cause }))
    Serves-first NoMemory end = (
      record {
        written = first_written;
        object = first_reached;
        passed = passed_on;
        read = tt;
        source = end.0;
        sink = sound ∙ h.serving.sound;
      },
      end.1,
    )
    Serves-first ReadFault end = (
      record {
        written = first_written;
        object = first_reached;
        passed = passed_on;
        read = end.0;
        source = end.1;
        sink = sound ∙ h.serving.sound;
      },
      end.2,
    )
    Serves-first WriteFault end = absurd end
