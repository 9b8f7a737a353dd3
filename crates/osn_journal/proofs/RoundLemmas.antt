-- What a round adds to the replies of a follower.
use Rattle.std.proofs.Common.{◌≡◌, ◌∙◌, ◌+◌, ℕ, true, false, List, [], ◌∷◌}
use Rattle.std.proofs.Common.{◌++◌}
use Rattle.std.proofs.Common.{length, Option, Ok, Err, refl, sym, ap}
use Rattle.std.proofs.Common.{subst}
use Rattle.std.proofs.Common.{arith, inl, inr, append-nil, append_assoc, length-append}
use Rattle.std.proofs.Math.Seq.{take-append_seam}
use Rattle.std.proofs.lemmas.List.Elements.{All-append}
use Rattle.std.specs.Io.KnownBytes.{Appends}
use Rattle.osn_register.specs.declared.limits.Limits.{Limits}
use Rattle.osn_lines.specs.LastLineFeed.{ended_bytes, unended_bytes}
use Rattle.osn_files.specs.declared.fault.FileFault.{FileFault}
use Rattle.osn_files.specs.declared.fault.FileFault.TheVariants as files
use Rattle.osn_files.specs.declared.fault.LineFault.{LineFault}
use Rattle.osn_folder.specs.declared.fault.FollowFault.{FollowFault}
use Rattle.osn_service.specs.Outcome.{is_refused}
use Rattle.osn_service.specs.declared.outcome.Outcome.{Outcome}
use Rattle.osn_service.specs.Faults.{MatchFault}
use Rattle.osn_service.specs.declared.fault.ServeFault.{ServeFault}
use Rattle.osn_service.specs.declared.fault.ServeFault.TheVariants.{NoMemory, ReadFault, WriteFault}
use Rattle.osn_service.specs.declared.rules.ServeRules.{ServeRules}
use Rattle.osn_journal.specs.declared.follower_fault.FollowerFault.{FollowerFault}
use Rattle.osn_journal.specs.declared.follower_fault.FollowerFault.TheVariants.{Serve, Journal}
use Rattle.osn_journal.specs.declared.follower_fault.FollowerFault.TheVariants.{File}
use Rattle.osn_journal.specs.declared.follower.Follower.{Follower}
use Rattle.osn_journal.specs.Arrivals.{Arrival, Ended, Gained, arrival_of}
use Rattle.osn_journal.specs.Arrivals.{file_of}
use Rattle.osn_journal.specs.FollowerInside.{IsFollowing, IsJournalOf, IsFrontOf}
use Rattle.osn_journal.specs.FollowerInside.{GivesSameLines}
use Rattle.osn_journal.specs.Follows.{Ends, HasNoRefusal, IsFirstRefused, IsRefused}
use Rattle.osn_journal.specs.Follows.{WritesAll, WritesFirst, WritesInPart}
use Rattle.osn_journal.specs.RoundInside.{Answers, ComesNot, EndsAfter}
use Rattle.osn_journal.specs.RoundInside.{RefusesLine, is_end, pending_after}
use Rattle.osn_journal.specs.RoundInside.{IsEarlyEnd}
use Rattle.osn_journal.specs.Outcomes.{outcomes, journal_object, outcomes_of, texts}
use Rattle.osn_journal.proofs.OutcomeLemmas.{file-append, round_of, file-round, outcomes-read}
use Rattle.osn_journal.proofs.OutcomeLemmas.{outcomes-round, outcomes-refused, all-after}
use Rattle.osn_journal.proofs.OutcomeLemmas.{first-after, in_part-after, first_refused-after}

-- ---- a round

-- a round whose lines were answered, with its replies
pub record Round (rules : ServeRules) (f g : Follower) (bytes new_bytes : List ℕ) (text : List ℕ) :
    Type 0
  where
    pub stand : (pending_bytes : List ℕ) → IsFrontOf pending_bytes f.requests
        → GivesSameLines text (ended_bytes (pending_after pending_bytes bytes))
    pub rest : (pending_bytes : List ℕ) → IsFrontOf pending_bytes f.requests
        → IsFrontOf (unended_bytes (pending_after pending_bytes bytes)) g.requests
    pub journal : (file : List ℕ) → IsJournalOf f.journal.limits file f.journal
        → IsJournalOf f.journal.limits (file ++ new_bytes) g.journal

module _ (rules : ServeRules) (f g : Follower) (bytes new_bytes text : List ℕ)
    (round : Round rules f g bytes new_bytes text) where
  abbrev limits : Limits
  limits = f.journal.limits

  module _ (initial : Option (List ℕ)) (arrivals : List Arrival) (all : List Outcome)
      (old : Option (List ℕ)) (h : IsFollowing rules limits initial arrivals all f old) where
    waits : List ℕ
    waits = pending_after h.pending_bytes bytes

    more : List Outcome
    more = outcomes rules g.journal.object text

    journal_now : IsJournalOf limits (h.file ++ new_bytes) g.journal
    journal_now = round.journal h.file h.journal

    same_outcomes : more
        ≡ outcomes rules g.journal.object (ended_bytes (pending_after h.pending_bytes bytes))
    unfolding more
    same_outcomes = round.stand h.pending_bytes h.requests rules g.journal.object

    -- by the round and whatever comes next
    outcomes-next : (next : List Arrival)
        → outcomes_of rules limits [] [] ((arrivals ++ round_of bytes new_bytes) ++ next)
        ≡ (all ++ more) ++ outcomes_of rules limits (h.file ++ new_bytes)
        (unended_bytes (pending_after h.pending_bytes bytes)) next
    outcomes-next next =
        let w = pending_after h.pending_bytes bytes in
        let rest = outcomes_of rules limits (h.file ++ new_bytes) (unended_bytes w) next in
        ap (outcomes_of rules limits [] []) (append_assoc arrivals (round_of bytes new_bytes) next)
        ∙ (h.goes_on (round_of bytes new_bytes ++ next)
        ∙ (ap (λ l. all ++ l)
        (outcomes-round rules limits h.file h.pending_bytes bytes new_bytes g.journal.object next
        journal_now.object
        ∙ ap (λ l. l ++ rest) (sym same_outcomes))
        ∙ sym (append_assoc all more rest)))

    outcomes-now : outcomes_of rules limits [] [] (arrivals ++ round_of bytes new_bytes) ≡ all
        ++ more
    outcomes-now =
        ap (outcomes_of rules limits [] [])
        (sym (append-nil (arrivals ++ round_of bytes new_bytes)))
        ∙ (outcomes-next [] ∙ append-nil (all ++ more))

    pub next-following : (now : Option (List ℕ)) (n : ℕ) → g.lines ≡ f.lines + n
        → WritesAll (outcomes rules g.journal.object text) old now n
        → HasNoRefusal rules (outcomes rules g.journal.object text)
        → IsFollowing rules limits initial (arrivals ++ round_of bytes new_bytes)
        (all ++ outcomes rules g.journal.object text) g now
    unfolding more
    next-following now n lines wrote spared = record {
      file = h.file ++ new_bytes;
      pending_bytes = unended_bytes (pending_after h.pending_bytes bytes);
      journal = journal_now;
      requests = round.rest h.pending_bytes h.requests;
      goes_on = outcomes-next;
      file_is =
          ap (λ l. l ++ new_bytes) h.file_is
          ∙ (ap (λ l. file_of arrivals ++ l) (sym (file-round bytes new_bytes))
          ∙ sym (file-append arrivals (round_of bytes new_bytes)));
      written = (all-after initial old now all h.written more n wrote).written;
      count = omega (
        arith,
        lines,
        h.count,
        (all-after initial old now all h.written more n
            wrote).count,
      );
      spared = λ stop.
          All-append (λ outcome. is_refused outcome ≡ false) all more (h.spared stop) (spared stop);
    }

    pub ends-all : (now : Option (List ℕ)) (n : ℕ) → is_end bytes ≡ true
        → WritesAll (outcomes rules g.journal.object text) old now n
        → HasNoRefusal rules (outcomes rules g.journal.object text)
        → Ends rules limits (arrivals ++ round_of bytes new_bytes)
        (outcomes_of rules limits [] [] (arrivals ++ round_of bytes new_bytes)) initial now
        (Ok (record { lines = f.lines + n; refused = false }))
    unfolding more
    ends-all now n last wrote spared =
        subst (λ (l : List Outcome).
        Ends rules limits (arrivals ++ round_of bytes new_bytes) l initial now
        (Ok (record { lines = f.lines + n; refused = false }))) (sym outcomes-now) (
          subst (λ (k : ℕ). WritesAll (all ++ more) initial now (k + n)) (sym h.count)
              (all-after initial old now all h.written more n wrote),
          (arrivals, new_bytes, at_end bytes last),
          λ stop.
              All-append (λ outcome. is_refused outcome ≡ false) all more (h.spared stop)
              (spared stop),
        )
      where
        at_end : (b : List ℕ) → is_end b ≡ true
            → arrivals ++ round_of b new_bytes ≡ arrivals ++ Ended ∷ Gained new_bytes ∷ []
        at_end [] is = refl
        at_end (c ∷ cs) is = absurd (cc)

    pub ends-refused : (now : Option (List ℕ)) (n : ℕ) → rules.stop_at_refusal ≡ true
        → WritesFirst (outcomes rules g.journal.object text) old now n
        → IsFirstRefused (outcomes rules g.journal.object text) n
        → Ends rules limits (arrivals ++ round_of bytes new_bytes)
        (outcomes_of rules limits [] [] (arrivals ++ round_of bytes new_bytes)) initial now
        (Ok (record { lines = f.lines + n; refused = true }))
    unfolding more
    ends-refused now n stop wrote refused =
        subst (λ (l : List Outcome).
        Ends rules limits (arrivals ++ round_of bytes new_bytes) l initial now
        (Ok (record { lines = f.lines + n; refused = true }))) (sym outcomes-now)
        (subst (λ (k : ℕ). WritesFirst (all ++ more) initial now (k + n)
        × IsFirstRefused (all ++ more) (k + n)
        × (rules.stop_at_refusal ≡ true)) (sym h.count) (
          first-after initial old now all h.written more n wrote,
          first_refused-after initial old now all h.written more n (h.spared stop) refused,
          stop,
        ))

    pub ends-early : (now : Option (List ℕ)) (n : ℕ) (why : ServeFault)
        → Answers rules g.journal.object text old now (Err (record { lines = n; cause = why }))
        → Ends rules limits (arrivals ++ round_of bytes new_bytes)
        (outcomes_of rules limits [] [] (arrivals ++ round_of bytes new_bytes)) initial now
        (Err (record { lines = f.lines + n; cause = Serve why }))
    unfolding more
    ends-early now n why h2 =
        subst (λ (l : List Outcome).
        Ends rules limits (arrivals ++ round_of bytes new_bytes) l initial now
        (Err (record { lines = f.lines + n; cause = Serve why }))) (sym outcomes-now)
        (subst (λ (k : ℕ). MatchFault why (WritesFirst (all ++ more) initial now (k + n))
        (WritesAll (all ++ more) initial now (k + n))
        (WritesInPart (all ++ more) initial now (k + n))) (sym h.count)
        (by_fault why h2))
      where
        by_fault : (fault : ServeFault)
            → MatchFault fault (WritesFirst more old now n) ⊥ (WritesInPart more old now n)
            → MatchFault fault (WritesFirst (all ++ more) initial now (length all + n))
            (WritesAll (all ++ more) initial now (length all + n))
            (WritesInPart (all ++ more) initial now (length all + n))
        by_fault NoMemory k = first-after initial old now all h.written more n k
        by_fault ReadFault k = absurd k
        by_fault WriteFault k = in_part-after initial old now all h.written more n k

-- ---- a round in which nothing is answered

module _ (rules : ServeRules) (f : Follower) (old : Option (List ℕ)) where
  abbrev its_limits : Limits
  its_limits = f.journal.limits

  module _ (initial : Option (List ℕ)) (arrivals : List Arrival) (all : List Outcome)
      (h : IsFollowing rules its_limits initial arrivals all f old) where
    -- what arrived adds no reply
    abbrev IsSilent : List Arrival → Type 0
    IsSilent next = outcomes_of rules its_limits [] [] (arrivals ++ next) ≡ all

    silent_none : IsSilent []
    silent_none = h.goes_on [] ∙ append-nil all

    silent_read : (bytes : List ℕ) → IsSilent (arrival_of bytes ∷ [])
    silent_read bytes =
        h.goes_on (arrival_of bytes ∷ [])
        ∙ (ap (λ l. all ++ l) (outcomes-read rules its_limits h.file h.pending_bytes bytes [])
        ∙ append-nil all)

    silent_refused : (bytes new_bytes : List ℕ) (e : ℕ × LineFault)
        → journal_object its_limits (h.file ++ new_bytes) ≡ Err e
        → IsSilent (round_of bytes new_bytes)
    silent_refused bytes new_bytes e is =
        h.goes_on (round_of bytes new_bytes)
        ∙ (ap (λ l. all ++ l)
        (outcomes-refused rules its_limits h.file h.pending_bytes bytes new_bytes e is)
        ∙ append-nil all)

    wrote_all : WritesAll all initial old f.lines
    wrote_all = record { count = h.count; written = h.written }

    -- no reply that may come later was written
    wrote_first : (next : List Arrival)
        → WritesFirst (outcomes_of rules its_limits [] [] (arrivals ++ next)) initial old f.lines
    wrote_first next =
        let rest = outcomes_of rules its_limits h.file h.pending_bytes next in
        subst (λ (l : List Outcome). WritesFirst l initial old f.lines) (sym (h.goes_on next))
        (subst (λ (k : ℕ). WritesFirst (all ++ rest) initial old k) (sym h.count)
        (record {
          enough = omega (arith, length-append all rest);
          written =
              subst (Appends initial old) (sym (ap texts (take-append_seam all rest))) h.written;
        }))

    all_silent : (next : List Arrival) → IsSilent next
        → WritesAll (outcomes_of rules its_limits [] [] (arrivals ++ next)) initial old f.lines
    all_silent next is =
        subst (λ (l : List Outcome). WritesAll l initial old f.lines) (sym is) wrote_all

  -- it ends since memory ran out, or since a read failed
  pub no_memory : (next : List Arrival)
      → EndsAfter rules old old f next
      (Err (record { lines = f.lines; cause = Serve NoMemory }))
  no_memory next = λ initial arrivals all h. wrote_first initial arrivals all h next

  pub read_fault : EndsAfter rules old old f []
      (Err (record { lines = f.lines; cause = Serve ReadFault }))
  read_fault = λ initial arrivals all h. all_silent initial arrivals all h []
      (silent_none initial arrivals all h)

  -- a look failed
  pub no_look : (bytes : List ℕ) (why : FollowFault)
      → EndsAfter rules old old f (arrival_of bytes ∷ [])
      (Err (record { lines = f.lines; cause = File why }))
  no_look bytes why = λ initial arrivals all h.
      all_silent initial arrivals all h (arrival_of bytes ∷ [])
      (silent_read initial arrivals all h bytes)

  -- a line of the journal is refused
  pub refused : (bytes new_bytes : List ℕ) (why : FileFault) → RefusesLine f.journal new_bytes why
      → EndsAfter rules old old f (round_of bytes new_bytes)
      (Err (record { lines = f.lines; cause = Journal why }))
  refused bytes new_bytes why is = λ initial arrivals all h.
      let at = is h.file h.journal in
      let file_is : h.file ++ new_bytes ≡ file_of (arrivals ++ round_of bytes new_bytes) =
      ap (λ l. l ++ new_bytes) h.file_is
      ∙ (ap (λ l. file_of arrivals ++ l) (sym (file-round bytes new_bytes))
      ∙ sym (file-append arrivals (round_of bytes new_bytes))) in (
        all_silent initial arrivals all h (round_of bytes new_bytes)
            (by_fault why initial arrivals all h at),
        subst (λ (l : List ℕ). IsRefused its_limits l why) file_is at,
      )
    where
      by_fault : (w : FileFault) (initial : Option (List ℕ)) (arrivals : List Arrival)
          (all : List Outcome) (h : IsFollowing rules its_limits initial arrivals all f old)
          → IsRefused its_limits (h.file ++ new_bytes) w
          → outcomes_of rules its_limits [] [] (arrivals ++ round_of bytes new_bytes) ≡ all
      by_fault files.NoMemory initial arrivals all h at = absurd at
      by_fault files.ReadFault initial arrivals all h at = absurd at
      by_fault (files.BadLine role line said) initial arrivals all h at =
          silent_refused initial arrivals all h bytes new_bytes (at.1, said) at.2

  -- what was received or not, and nothing answered
  pub not_received : (before after : Option (List Arrival)) (cause : FollowerFault)
      → ComesNot f before after cause
      → IsEarlyEnd rules before after old old f (record { lines = f.lines; cause = cause })
  not_received before after (Serve NoMemory) (inl none) = ([], none, no_memory [])
  not_received before after (Serve NoMemory) (inr (bytes, inl read)) =
      (arrival_of bytes ∷ [], read, no_memory (arrival_of bytes ∷ []))
  not_received before after (Serve NoMemory) (inr (bytes, inr (new_bytes, both))) =
      (round_of bytes new_bytes, both, no_memory (round_of bytes new_bytes))
  not_received before after (Serve ReadFault) h = ([], h, read_fault)
  not_received before after (Serve WriteFault) h = absurd h
  not_received before after (Journal why) h =
      (round_of h.0 h.1, h.2, refused h.0 h.1 why h.3)
  not_received before after (File why) h =
      (arrival_of h.0 ∷ [], h.1, no_look h.0 why)
