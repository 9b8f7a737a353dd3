-- What one round of a follower has done: it reads once, looks once, and answers.
use Rattle.std.specs.Prelude.{◌≡◌, ◌≤◌, ◌⊎◌, ℕ, Bool, true, false, List, [], ◌∷◌, ◌++◌, length}
use Rattle.std.specs.Prelude.{Option, Result, Ok, Err}
use Rattle.osn_core.specs.Sequential.{ObjectState}
use Rattle.osn_lines.specs.LastLineFeed.{ended_bytes, unended_bytes}
use Rattle.osn_lines.specs.declared.fault.EndedEarly.{EndedEarly}
use Rattle.osn_files.specs.declared.fault.FileFault.{FileFault}
use Rattle.osn_files.specs.declared.fault.FileFault.TheVariants as files
use Rattle.osn_service.specs.declared.outcome.Outcome.{Outcome}
use Rattle.osn_service.specs.Faults as service
use Rattle.osn_service.specs.Faults.{MatchServed}
use Rattle.osn_service.specs.declared.fault.ServeFault.{ServeFault}
use Rattle.osn_service.specs.declared.fault.ServeFault.TheVariants.{NoMemory}
use Rattle.osn_service.specs.declared.rules.ServeRules.{ServeRules}
use Rattle.osn_service.specs.declared.service.Served.{Served}
use Rattle.osn_journal.specs.declared.follower_fault.FollowerFault.{FollowerFault}
use Rattle.osn_journal.specs.declared.follower_fault.FollowerFault.TheVariants.{Serve, Journal}
use Rattle.osn_journal.specs.declared.follower.Follower.{Follower}
use Rattle.osn_journal.specs.declared.follower.RequestLines.{RequestLines}
use Rattle.osn_journal.specs.declared.followed_journal.FollowedJournal.{FollowedJournal}
use Rattle.osn_journal.specs.declared.line_front.LineFront.{LineFront}
use Rattle.osn_journal.specs.Arrivals.{Arrival, Arrive, Gained, arrival_of}
use Rattle.osn_journal.specs.Follows.{WritesAll, WritesFirst, WritesInPart, IsFirstRefused}
use Rattle.osn_journal.specs.Follows.{IsRefused, MatchFollower, Ends}
use Rattle.osn_journal.specs.Follows.{HasNoRefusal}
use Rattle.osn_journal.specs.FollowerInside.{IsFrontOf, GivesSameLines, IsJournalOf, IsFollowing}
use Rattle.osn_journal.specs.Outcomes.{outcomes, outcomes_of, with_feed}

-- ---- a read

-- whether a read gave nothing, which is the end of the input
abbrev pub is_end : List ℕ → Bool
is_end [] = true
is_end (b ∷ bs) = false

-- the bytes that wait once these were read
abbrev pub pending_after : List ℕ → List ℕ → List ℕ
pending_after pending_bytes [] = with_feed pending_bytes
pending_after pending_bytes (b ∷ bs) = pending_bytes ++ b ∷ bs

-- lines have ended by a read
pub record IsReadOf (old new : LineFront) (before after : Option (List Arrival))
    (lines : RequestLines) : Type 0 where
  pub bytes : List ℕ
  pub arrive : Arrive before after (arrival_of bytes ∷ [])
  pub last : lines.is_last ≡ is_end bytes
  pub few : length lines.text.items ≤ 196608
  pub stand : (pending_bytes : List ℕ) → IsFrontOf pending_bytes old
      → GivesSameLines lines.text.items (ended_bytes (pending_after pending_bytes bytes))
  pub rest : (pending_bytes : List ℕ) → IsFrontOf pending_bytes old
      → IsFrontOf (unended_bytes (pending_after pending_bytes bytes)) new

-- none have: nothing arrived, or there was no memory for what did
abbrev pub IsUnreadOf : Option (List Arrival) → Option (List Arrival) → ServeFault → Type 0
IsUnreadOf before after fault = service.MatchFault fault
    ((bytes : List ℕ) × Arrive before after (arrival_of bytes ∷ []))
    (Arrive before after []) ⊥

-- ---- a look

-- the lines that a look found were loaded
pub record Loads (old new : FollowedJournal) (before after : Option (List Arrival)) : Type 0 where
  pub new_bytes : List ℕ
  pub arrive : Arrive before after (Gained new_bytes ∷ [])
  pub limits : new.limits ≡ old.limits
  pub journal : (file : List ℕ) → IsJournalOf old.limits file old
      → IsJournalOf old.limits (file ++ new_bytes) new

-- a line that is found is refused, in the file of the journal
abbrev pub RefusesLine : FollowedJournal → List ℕ → FileFault → Type 0
RefusesLine old new_bytes fault =
    (file : List ℕ) → IsJournalOf old.limits file old
    → IsRefused old.limits (file ++ new_bytes) fault

-- the lines that were found were not loaded: there was no memory, or one of them is refused, or
-- nothing was found
abbrev pub LoadsNot : FollowedJournal → Option (List Arrival) → Option (List Arrival)
    → FollowerFault → Type 0
LoadsNot old before after fault = MatchFollower fault
    (λ fault. (fault ≡ NoMemory)
    × (new_bytes : List ℕ) × Arrive before after (Gained new_bytes ∷ []))
    (λ fault. (new_bytes : List ℕ) × Arrive before after (Gained new_bytes ∷ [])
    × RefusesLine old new_bytes fault)
    (λ fault. Arrive before after [])

-- NoMemory is reported as that, and each other fault of the journal as it is
abbrev pub IsUnloaded : FileFault → FollowerFault → Type 0
IsUnloaded files.NoMemory fault = fault ≡ Serve NoMemory
IsUnloaded files.ReadFault fault = fault ≡ Journal files.ReadFault
IsUnloaded (files.BadLine role line why) fault = fault ≡ Journal (files.BadLine role line why)

-- ---- a read and a look

-- lines have ended by a read, and the journal was brought up to date
pub record Comes (old new : Follower) (before after : Option (List Arrival))
    (lines : RequestLines) : Type 0 where
  pub bytes : List ℕ
  pub new_bytes : List ℕ
  pub arrive : Arrive before after (arrival_of bytes ∷ Gained new_bytes ∷ [])
  pub last : lines.is_last ≡ is_end bytes
  pub few : length lines.text.items ≤ 196608
  pub stand : (pending_bytes : List ℕ) → IsFrontOf pending_bytes old.requests
      → GivesSameLines lines.text.items (ended_bytes (pending_after pending_bytes bytes))
  pub rest : (pending_bytes : List ℕ) → IsFrontOf pending_bytes old.requests
      → IsFrontOf (unended_bytes (pending_after pending_bytes bytes)) new.requests
  pub limits : new.journal.limits ≡ old.journal.limits
  pub journal : (file : List ℕ) → IsJournalOf old.journal.limits file old.journal
      → IsJournalOf old.journal.limits (file ++ new_bytes) new.journal

-- what arrived if no line is answered: at most a read, and at most a look
abbrev pub ArrivesInPart : Option (List Arrival) → Option (List Arrival) → Type 0
ArrivesInPart before after =
    Arrive before after []
    ⊎ ((bytes : List ℕ) × (Arrive before after (arrival_of bytes ∷ [])
    ⊎ ((new_bytes : List ℕ) × Arrive before after (arrival_of bytes ∷ Gained new_bytes ∷ []))))

-- no lines came, by this fault
abbrev pub ComesNot : Follower → Option (List Arrival) → Option (List Arrival) → FollowerFault
    → Type 0
ComesNot old before after fault = MatchFollower fault
    (λ fault. service.MatchFault fault (ArrivesInPart before after) (Arrive before after []) ⊥)
    (λ fault. (bytes : List ℕ) × (new_bytes : List ℕ)
    × Arrive before after (arrival_of bytes ∷ Gained new_bytes ∷ [])
    × RefusesLine old.journal new_bytes fault)
    (λ fault. (bytes : List ℕ) × Arrive before after (arrival_of bytes ∷ []))

-- ---- an answer

-- how the lines of a text were answered from an object
abbrev pub Answers : ServeRules → ObjectState → List ℕ → Option (List ℕ) → Option (List ℕ)
    → Result Served (EndedEarly ServeFault) → Type 0
Answers rules s text old new (Ok served) =
    MatchServed served.refused
    (λ n. WritesAll (outcomes rules s text) old new n × HasNoRefusal rules (outcomes rules s text))
    (λ n. WritesFirst (outcomes rules s text) old new n
    × IsFirstRefused (outcomes rules s text) n × (rules.stop_at_refusal ≡ true))
    served.lines
Answers rules s text old new (Err end) =
    service.MatchFault end.cause (WritesFirst (outcomes rules s text) old new end.lines) ⊥
    (WritesInPart (outcomes rules s text) old new end.lines)

-- ---- a round

-- whatever the replies before were, more were added now, and more may come
abbrev pub GoesOn : ServeRules → Option (List Arrival) → Option (List Arrival) → Option (List ℕ)
    → Option (List ℕ) → Follower → Follower → Type 0
GoesOn rules before after old new f g =
    (next : List Arrival) × Arrive before after next × (g.journal.limits ≡ f.journal.limits)
    × ((initial : Option (List ℕ)) (arrivals : List Arrival) (all : List Outcome)
    → IsFollowing rules f.journal.limits initial arrivals all f old
    → (more : List Outcome)
    × IsFollowing rules f.journal.limits initial (arrivals ++ next) more g new)

-- it ended so, whatever the replies before were
abbrev pub EndsAfter : ServeRules → Option (List ℕ) → Option (List ℕ) → Follower
    → List Arrival → Result Served (EndedEarly FollowerFault) → Type 0
EndsAfter rules old new f next result =
    (initial : Option (List ℕ)) (arrivals : List Arrival) (all : List Outcome)
    → IsFollowing rules f.journal.limits initial arrivals all f old
    → Ends rules f.journal.limits (arrivals ++ next)
    (outcomes_of rules f.journal.limits [] [] (arrivals ++ next)) initial new result

-- all lines were answered, or one was refused and ended the service
abbrev pub IsOver : ServeRules → Option (List Arrival) → Option (List Arrival) → Option (List ℕ)
    → Option (List ℕ) → Follower → Served → Type 0
IsOver rules before after old new f served =
    (next : List Arrival) × Arrive before after next × EndsAfter rules old new f next (Ok served)

-- it ended early
abbrev pub IsEarlyEnd : ServeRules → Option (List Arrival) → Option (List Arrival)
    → Option (List ℕ) → Option (List ℕ) → Follower → EndedEarly FollowerFault → Type 0
IsEarlyEnd rules before after old new f end =
    (next : List Arrival) × Arrive before after next × EndsAfter rules old new f next (Err end)
