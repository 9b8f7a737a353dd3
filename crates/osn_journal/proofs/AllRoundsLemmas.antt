-- What the parts of a round have done, and all rounds together.
use Rattle.std.proofs.Common.{◌≡◌, ◌∙◌, ◌+◌, ℕ, Bool, true, false, List, [], ◌∷◌}
use Rattle.std.proofs.Common.{◌++◌}
use Rattle.std.proofs.Common.{Option, Result, Ok, Err, refl, sym, ap}
use Rattle.std.proofs.Common.{subst}
use Rattle.std.proofs.Common.{inl, inr}
use Rattle.std.proofs.lemmas.List.Elements.{All-nil}
use Rattle.osn_register.specs.declared.limits.Limits.{Limits}
use Rattle.osn_lines.specs.LastLineFeed.{unended_bytes}
use Rattle.osn_lines.specs.declared.fault.EndedEarly.{EndedEarly}
use Rattle.osn_lines.proofs.ByteLemmas.{Appends-nothing}
use Rattle.osn_files.specs.declared.fault.FileFault.{FileFault}
use Rattle.osn_files.specs.declared.fault.FileFault.TheVariants as files
use Rattle.osn_service.specs.Outcome.{is_refused}
use Rattle.osn_service.specs.declared.outcome.Outcome.{Outcome}
use Rattle.osn_service.specs.Faults.{MatchServed}
use Rattle.osn_service.specs.declared.fault.ServeFault.{ServeFault}
use Rattle.osn_service.specs.declared.fault.ServeFault.TheVariants.{NoMemory}
use Rattle.osn_service.specs.declared.rules.ServeRules.{ServeRules}
use Rattle.osn_service.specs.declared.service.Served.{Served}
use Rattle.osn_journal.specs.declared.follower_fault.FollowerFault.{FollowerFault}
use Rattle.osn_journal.specs.declared.follower_fault.FollowerFault.TheVariants.{Serve, Journal}
use Rattle.osn_journal.specs.declared.follower_fault.FollowerFault.TheVariants.{File}
use Rattle.osn_journal.specs.declared.follower.Follower.{Follower}
use Rattle.osn_journal.specs.declared.follower.RequestLines.{RequestLines}
use Rattle.osn_journal.specs.declared.followed_journal.FollowedJournal.{FollowedJournal}
use Rattle.osn_journal.specs.declared.line_front.LineFront.{LineFront}
use Rattle.osn_journal.specs.Arrivals.{Arrival, Arrive, Gained, arrival_of}
use Rattle.osn_journal.specs.FollowerInside.{HasNoLine, IsFollowing, IsJournalOf, IsFrontOf}
use Rattle.osn_journal.specs.Follows.{Ends, HasNoRefusal, Follows, IsFirstRefused}
use Rattle.osn_lines.specs.Streams.{Output}
use Rattle.osn_journal.specs.Follows.{WritesAll, WritesFirst}
use Rattle.osn_journal.specs.RoundInside.{Answers, Comes, ComesNot, EndsAfter}
use Rattle.osn_journal.specs.RoundInside.{RefusesLine, is_end, pending_after, GoesOn}
use Rattle.osn_journal.specs.RoundInside.{IsOver, IsEarlyEnd, IsReadOf, IsUnloaded, LoadsNot}
use Rattle.osn_journal.specs.Outcomes.{outcomes, outcomes_of}
use Rattle.osn_journal.proofs.OutcomeLemmas.{Arrive-then, round_of}
use Rattle.osn_journal.proofs.RoundLemmas.{Round, next-following, ends-all, ends-refused}
use Rattle.osn_journal.proofs.RoundLemmas.{ends-early}

-- ---- what the parts of a round have done

-- the journal could not be loaded
pub look_failed : (old : FollowedJournal) (before after : Option (List Arrival))
    (new_bytes : List ℕ)
    (fault : FileFault) (said : FollowerFault) → Arrive before after (Gained new_bytes ∷ [])
    → IsUnloaded fault said → ((fault ≡ files.NoMemory → ⊥) → RefusesLine old new_bytes fault)
    → LoadsNot old before after said
look_failed old before after new_bytes files.NoMemory said arrive is refuses =
    subst (LoadsNot old before after) (sym is) (refl, new_bytes, arrive)
look_failed old before after new_bytes files.ReadFault said arrive is refuses =
    subst (LoadsNot old before after) (sym is) (new_bytes, arrive, refuses (λ e. absurd (cc)))
look_failed old before after new_bytes (files.BadLine role line why) said arrive is refuses =
    subst (LoadsNot old before after) (sym is) (new_bytes, arrive, refuses (λ e. absurd (cc)))

-- request bytes were read, and the look failed
pub look_failed-after : (f : Follower) (front : LineFront)
    (before mid after : Option (List Arrival))
    (lines : RequestLines) (said : FollowerFault) → IsReadOf f.requests front before mid lines
    → LoadsNot f.journal mid after said → ComesNot f before after said
look_failed-after f front before mid after lines (Serve why) read h =
    subst (λ (w : ServeFault). ComesNot f before after (Serve w)) (sym h.0)
    (inr (
      read.bytes,
      inr (
        h.1,
        Arrive-then before mid after (arrival_of read.bytes ∷ [])
            (Gained h.1 ∷ []) read.arrive h.2,
      ),
    ))
look_failed-after f front before mid after lines (Journal why) read h = (
  read.bytes,
  h.0,
  Arrive-then before mid after (arrival_of read.bytes ∷ []) (Gained h.0 ∷ []) read.arrive h.1,
  h.2,
)
look_failed-after f front before mid after lines (File why) read h = (
  read.bytes,
  Arrive-then before mid after (arrival_of read.bytes ∷ []) [] read.arrive h,
)

-- lines have come, and this is the state of the follower once they are answered
pub Round-come : (rules : ServeRules) (f m g : Follower) (before after : Option (List Arrival))
    (lines : RequestLines) (h : Comes f m before after lines) → g.journal ≡ m.journal
    → g.requests ≡ m.requests → Round rules f g h.bytes h.new_bytes lines.text.items
Round-come rules f m g before after lines h journal requests = record {
  stand = h.stand;
  rest = λ pending_bytes k.
      subst (λ (front : LineFront). IsFrontOf (unended_bytes (pending_after pending_bytes h.bytes))
      front)
      (sym requests) (h.rest pending_bytes k);
  journal = λ file k.
      subst (λ (j : FollowedJournal). IsJournalOf f.journal.limits (file ++ h.new_bytes) j)
      (sym journal) (h.journal file k);
}

module _ (rules : ServeRules) (f m g : Follower) (before after : Option (List Arrival))
    (lines : RequestLines) (h : Comes f m before after lines) (journal : g.journal ≡ m.journal)
    (requests : g.requests ≡ m.requests) (old now : Option (List ℕ)) (done : Served) where
  answers_here : (result : Result Served (EndedEarly ServeFault))
      → Answers rules m.journal.object lines.text.items old now result
      → Answers rules g.journal.object lines.text.items old now result
  answers_here result k =
      subst (λ (j : FollowedJournal). Answers rules j.object lines.text.items old now result)
      (sym journal) k

  -- all were answered, and more may come
  pub GoesOn-round : g.lines ≡ f.lines + done.lines → done.refused ≡ false
      → Answers rules m.journal.object lines.text.items old now (Ok done)
      → GoesOn rules before after old now f g
  GoesOn-round counted whole k =
      let round = Round-come rules f m g before after lines h journal requests in
      let answers = subst (λ (b : Bool). MatchServed b
      (λ n. WritesAll (outcomes rules g.journal.object lines.text.items) old now n
      × HasNoRefusal rules (outcomes rules g.journal.object lines.text.items))
      (λ n. WritesFirst (outcomes rules g.journal.object lines.text.items) old now n
      × IsFirstRefused (outcomes rules g.journal.object lines.text.items) n
      × (rules.stop_at_refusal ≡ true))
      done.lines) whole (answers_here (Ok done) k) in (
        round_of h.bytes h.new_bytes,
        h.arrive,
        ap (λ j. j.limits) journal ∙ h.limits,
        λ initial arrivals all k. (
          all ++ outcomes rules g.journal.object lines.text.items,
          next-following rules f g h.bytes h.new_bytes lines.text.items round initial arrivals all
              old
              k now done.lines counted answers.0 answers.1,
        ),
      )

  -- no more lines must be answered
  pub IsOver-round : (done.refused ≡ false → is_end h.bytes ≡ true)
      → Answers rules m.journal.object lines.text.items old now (Ok done)
      → IsOver rules before after old now f
      (record { lines = f.lines + done.lines; refused = done.refused })
  IsOver-round last k = (
    round_of h.bytes h.new_bytes,
    h.arrive,
    λ initial arrivals all following.
        by_end done.refused refl initial arrivals all following (answers_here (Ok done) k),
  )
    where
      by_end : (b : Bool) → done.refused ≡ b → (initial : Option (List ℕ)) (arrivals : List Arrival)
          (all : List Outcome) → IsFollowing rules f.journal.limits initial arrivals all f old
          → MatchServed b
          (λ n. WritesAll (outcomes rules g.journal.object lines.text.items) old now n
          × HasNoRefusal rules (outcomes rules g.journal.object lines.text.items))
          (λ n. WritesFirst (outcomes rules g.journal.object lines.text.items) old now n
          × IsFirstRefused (outcomes rules g.journal.object lines.text.items) n
          × (rules.stop_at_refusal ≡ true))
          done.lines
          → Ends rules f.journal.limits (arrivals ++ round_of h.bytes h.new_bytes)
          (outcomes_of rules f.journal.limits [] [] (arrivals ++ round_of h.bytes h.new_bytes))
          initial now
          (Ok (record { lines = f.lines + done.lines; refused = b }))
      by_end false is initial arrivals all following answers =
          ends-all rules f g h.bytes h.new_bytes lines.text.items
          (Round-come rules f m g before after lines h journal requests) initial arrivals all old
          following now done.lines (last is) answers.0 answers.1
      by_end true is initial arrivals all following answers =
          ends-refused rules f g h.bytes h.new_bytes lines.text.items
          (Round-come rules f m g before after lines h journal requests) initial arrivals all old
          following now done.lines answers.2 answers.0 answers.1

  -- not all were
  pub IsEarlyEnd-round : (n : ℕ) (why : ServeFault)
      → Answers rules m.journal.object lines.text.items old now
      (Err (record { lines = n; cause = why }))
      → IsEarlyEnd rules before after old now f
      (record { lines = f.lines + n; cause = Serve why })
  IsEarlyEnd-round n why k = (
    round_of h.bytes h.new_bytes,
    h.arrive,
    λ initial arrivals all following.
        ends-early rules f g h.bytes h.new_bytes lines.text.items
        (Round-come rules f m g before after lines h journal requests) initial arrivals all old
        following now n why
        (answers_here (Err (record { lines = n; cause = why })) k),
  )

-- ---- all rounds

-- nothing has arrived yet
pub IsFollowing-none : (rules : ServeRules) (initial : Option (List ℕ)) (f : Follower)
    → IsJournalOf f.journal.limits [] f.journal → f.requests.bytes.items ≡ [] → f.lines ≡ 0
    → IsFollowing rules f.journal.limits initial [] [] f initial
IsFollowing-none rules initial f journal requests lines = record {
  file = [];
  pending_bytes = [];
  journal = journal;
  requests =
      record {
        none = refl;
        none_here = subst HasNoLine (sym requests) refl;
        is = inl requests;
      };
  goes_on = λ more. refl;
  file_is = refl;
  written = Appends-nothing initial;
  count = lines;
  spared = λ stop. All-nil (λ outcome. is_refused outcome ≡ false);
}

-- the follower has ended after rounds, however it did
pub Follows-after : (rules : ServeRules) (limits : Limits)
    (before mid after : Option (List Arrival))
    (o : Output) (old : Option (List ℕ)) (f : Follower) (arrivals next : List Arrival)
    (all : List Outcome) (result : Result Served (EndedEarly FollowerFault))
    → f.journal.limits ≡ limits → IsFollowing rules f.journal.limits o.old arrivals all f old
    → Arrive before mid arrivals → Arrive mid after next → EndsAfter rules old o.new f next result
    → Follows rules limits before after o result
Follows-after rules limits before mid after o old f arrivals next all result same following first
    last ends = record {
      arrivals = arrivals ++ next;
      arrive = Arrive-then before mid after arrivals next first last;
      ended =
          subst (λ (l : Limits). Ends rules l (arrivals ++ next)
          (outcomes_of rules l [] [] (arrivals ++ next)) o.old o.new result) same
          (ends o.old arrivals all following);
    }

-- what holds after another round
pub next_invariant : (rules : ServeRules) (before mid after : Option (List Arrival))
    (initial old now : Option (List ℕ)) (f g : Follower) (arrivals : List Arrival)
    (all : List Outcome) → Arrive before mid arrivals
    → IsFollowing rules f.journal.limits initial arrivals all f old
    → GoesOn rules mid after old now f g
    → (arrivals : List Arrival) × (all : List Outcome) × Arrive before after arrivals
    × IsFollowing rules g.journal.limits initial arrivals all g now
next_invariant rules before mid after initial old now f g arrivals all first h next =
    let more = next.3 initial arrivals all h in (
      arrivals ++ next.0,
      more.0,
      Arrive-then before mid after arrivals next.0 first next.1,
      subst (λ (l : Limits). IsFollowing rules l initial (arrivals ++ next.0) more.0 g now)
          (sym next.2) more.1,
    )
