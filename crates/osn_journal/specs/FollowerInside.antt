-- What a follower has between two looks: the journal as far as its lines have come, and what has
-- come of the next request line.
use Rattle.std.specs.Prelude.{◌≡◌, ◌+◌, ◌<◌, ◌≤◌, ◌⊎◌, ◌++◌, [], ℕ, true, false, List, length}
use Rattle.std.specs.Prelude.{Option, None, Ok, min}
use Rattle.std.specs.List.{All}
use Rattle.std.specs.Io.KnownBytes.{Appends}
use Rattle.osn_days.specs.Rules.{newest_rules}
use Rattle.osn_core.specs.Sequential.{ObjectState}
use Rattle.osn_register.specs.declared.limits.Limits.{Limits}
use Rattle.osn_lines.specs.LastLineFeed.{ended_length}
use Rattle.osn_lines.specs.Lines.{lines, longest_line}
use Rattle.osn_service.specs.Outcome.{is_refused}
use Rattle.osn_service.specs.declared.outcome.Outcome.{Outcome}
use Rattle.osn_files.specs.Journal.{after_object, load}
use Rattle.osn_files.specs.Turns.{in_turn}
use Rattle.osn_folder.specs.FollowedFile.{IsOfWholeLines}
use Rattle.osn_service.specs.declared.rules.ServeRules.{ServeRules}
use Rattle.osn_journal.specs.declared.followed_journal.FollowedJournal.{FollowedJournal}
use Rattle.osn_journal.specs.declared.line_front.LineFront.{LineFront}
use Rattle.osn_journal.specs.declared.follower.Follower.{Follower}
use Rattle.osn_journal.specs.Arrivals.{Arrival, file_of}
use Rattle.osn_journal.specs.Outcomes.{outcomes, journal_object, outcomes_of, texts}

-- ---- the next request line

-- no line of the bytes has ended
abbrev pub HasNoLine : List ℕ → Type 0
HasNoLine bytes = ended_length bytes ≡ 0

-- no more than one line that is too long, and one read
abbrev pub HasFew : LineFront → Type 0
HasFew front = length front.bytes.items ≤ 131072

-- the bytes are those that wait, or both are too long for a line. No line of them has ended
pub record IsFrontOf (pending_bytes : List ℕ) (front : LineFront) : Type 0 where
  pub none : HasNoLine pending_bytes
  pub none_here : HasNoLine front.bytes.items
  pub is : (front.bytes.items ≡ pending_bytes)
      ⊎ ((longest_line < length front.bytes.items) × (longest_line < length pending_bytes))

-- the lines of two texts get the same replies from every object
abbrev pub GivesSameLines : List ℕ → List ℕ → Type 0
GivesSameLines given text = (rules : ServeRules) (s : ObjectState) →
    outcomes rules s given ≡ outcomes rules s text

-- ---- the journal

-- a journal as far as these lines of its file have come: the object is theirs, and whatever lines
-- come next go on from it
pub record IsJournalOf (limits : Limits) (file : List ℕ) (j : FollowedJournal) : Type 0 where
  pub whole : IsOfWholeLines file
  pub object : journal_object limits file ≡ Ok j.object
  pub fresh : j.version ≡ None → lines file ≡ []
  pub goes_on : (more : List (List ℕ)) → load newest_rules limits (lines file ++ more)
      ≡ in_turn (after_object newest_rules) (length (lines file) + 1) j.version j.object more
  pub count : j.lines ≡ min (length (lines file)) 18446744073709551615

-- ---- the follower

-- The outcomes of these arrivals are `all`, their replies were written, and what comes next
-- continues from the state of the follower.
pub record IsFollowing (rules : ServeRules) (limits : Limits) (old : Option (List ℕ))
    (arrivals : List Arrival) (all : List Outcome) (f : Follower) (now : Option (List ℕ)) : Type 0
  where
    pub file : List ℕ
    pub pending_bytes : List ℕ
    pub journal : IsJournalOf limits file f.journal
    pub requests : IsFrontOf pending_bytes f.requests
    pub goes_on : (more : List Arrival) → outcomes_of rules limits [] [] (arrivals ++ more)
        ≡ all ++ outcomes_of rules limits file pending_bytes more
    pub file_is : file ≡ file_of arrivals
    pub written : Appends old now (texts all)
    pub count : f.lines ≡ length all
    pub spared : rules.stop_at_refusal ≡ true → All (λ outcome. is_refused outcome ≡ false) all
