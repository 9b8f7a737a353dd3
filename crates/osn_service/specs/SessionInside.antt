-- A session as what takes lines: what it has answered, and what of that waits.
use Rattle.std.specs.Prelude.{◌≡◌, ◌+◌, ◌-◌, ◌<◌, ◌⊎◌, ℕ, Bool, true, false, List, [], ◌∷◌}
use Rattle.std.specs.Prelude.{◌++◌, Option, Some, length, Result, Ok, Err}
use Rattle.std.specs.Io.KnownBytes.{Appends}
use Rattle.osn_lines.specs.Faults.{WriteFails}
use Rattle.osn_lines.specs.Lines.{lines}
use Rattle.osn_core.specs.Sequential.{ObjectState}
use Rattle.osn_service.specs.declared.outcome.Outcome.{Outcome}
use Rattle.osn_service.specs.ReplyText.{reply_line}
use Rattle.osn_service.specs.declared.reply_buffer.ReplyBuffer.{ReplyBuffer}
use Rattle.osn_service.specs.declared.rules.ServeRules.{ServeRules}
use Rattle.osn_service.specs.declared.session.Session.{Session}
use Rattle.osn_service.specs.declared.stop.Stop.{Stop}
use Rattle.osn_service.specs.Outcome.{is_refused}
use Rattle.osn_service.specs.Faults.{HasReply, RepliesFail}
use Rattle.osn_service.specs.Refusals.{NoneRefused}
use Rattle.osn_service.specs.Served.{line_text, outputs, after_lines}
use Rattle.osn_service.specs.ServiceInside.{full, Waits, InPart, Adds, Settles, WritesSome}
use Rattle.osn_service.specs.Session.{line_after, line_outcome}
use Rattle.osn_service.specs.Stop.{MatchStop}
use Rattle.osn_service.specs.Store.{KeepsSince}

-- what a session has at a moment: its object, the bytes that are written, whether a write has
-- failed, and the replies that wait
pub record SessionState : Type 0 where
  pub object : ObjectState
  pub written : Option (List ℕ)
  pub failed : Bool
  pub buffer : ReplyBuffer

-- the state of a session over a store, a sink and a buffer
abbrev pub session_state : {W S : Type 0} → (W → Option (List ℕ)) → (W → Bool) → (S → ObjectState)
    → S → W → ReplyBuffer → SessionState
session_state contents has_failed state store sink buffer = record {
  object = state store;
  written = contents sink;
  failed = has_failed sink;
  buffer = buffer;
}

-- ---- one line

-- a reply was added, and the object is this one then
pub record AddsReply (outcome : Outcome) (after : ObjectState) (s t : SessionState) : Type 0 where
  pub adds : Adds s.object t.object (reply_line outcome) s.written t.written s.buffer t.buffer
  pub object : t.object ≡ after
  pub sound : t.failed ≡ s.failed

-- nothing was answered, and nothing was written or all that waited
pub record AnswersNothing (s t : SessionState) : Type 0 where
  pub settles : Settles s.written t.written s.buffer t.buffer
  pub object : t.object ≡ s.object
  pub sound : t.failed ≡ s.failed

-- a write of what waited failed, with this many replies not written whole
pub record Unwritten (s t : SessionState) (unwritten : ℕ) : Type 0 where
  pub some : WritesSome s.written t.written s.buffer unwritten
  pub object : t.object ≡ s.object
  pub reason : WriteFails s.failed t.failed s.buffer.text.items

-- what waited was written, the object is this one then, and its reply was taken back
pub record TakenBack (after : ObjectState) (s t : SessionState) (holds_back : Bool) : Type 0 where
  pub written : Appends s.written t.written s.buffer.text.items
  pub none : t.buffer.text.items ≡ []
  pub object : t.object ≡ after
  pub sound : t.failed ≡ s.failed
  pub passed : holds_back ≡ false

-- not all changes since a moment are kept, by this fault, if all were kept before
abbrev pub KeepsNoMore : {S F : Type 0} → (S → S → Type 0) → (S → ObjectState → S → F → Type 0)
    → S → ObjectState → S → F → Type 0
KeepsNoMore {S} has_kept has_lost old before new why =
    (initial : S) → has_kept initial old → has_lost initial before new why

-- what became of a line with this outcome, by whether it was answered. The object is this one after
-- the line
abbrev pub Answers : {S F : Type 0} → (S → S → Type 0) → (S → S → Type 0)
    → (S → ObjectState → S → F → Type 0) → Outcome → ObjectState → SessionState → SessionState →
    Bool → S → S → Result Bool (Stop F) → Type 0
Answers lends has_kept has_lost outcome after s t holds_back old new (Ok refused) =
    KeepsSince lends old new × (refused ≡ is_refused outcome) × AddsReply outcome after s t
    × KeepsSince has_kept old new
Answers lends has_kept has_lost outcome after s t holds_back old new (Err stop) =
    KeepsSince lends old new × MatchStop stop
    (AnswersNothing s t × KeepsSince has_kept old new)
    (λ unwritten. Unwritten s t unwritten × KeepsSince has_kept old new)
    (λ why. (is_refused outcome ≡ false) × TakenBack after s t holds_back
    × KeepsNoMore has_kept has_lost old s.object new why)
    ⊥

-- ---- all lines so far

-- the replies that wait are shorter than those that are written together, except for the reply to
-- one of the lines
abbrev pub IsShort : ServeRules → ObjectState → List (List ℕ) → List ℕ → Type 0
IsShort rules s lines text =
    (length text < full) ⊎ HasReply rules s lines (length text - 65535)

-- lines were answered, and the replies to the last of them wait
pub record HasAnswered (rules : ServeRules) (initial : SessionState) (lines : List (List ℕ))
    (now : SessionState) : Type 0 where
  pub waits : Waits (line_text rules) (line_after rules) initial.object now.object lines
      initial.written now.written now.buffer
  pub short : IsShort rules initial.object lines now.buffer.text.items
  pub sound : now.failed ≡ initial.failed

-- lines were answered, and a write failed with this many of their replies not written whole
pub record FailsToWrite (rules : ServeRules) (initial : SessionState) (lines : List (List ℕ))
    (now : SessionState) (unwritten : ℕ) : Type 0 where
  pub whole : ℕ
  pub count : whole + unwritten ≡ length lines
  pub part : InPart (line_text rules) (line_after rules) initial.object now.object lines
      initial.written now.written whole
  pub reason : RepliesFail rules initial.object initial.failed now.failed lines

-- lines were answered and their replies written, and the change of the line after them was not kept
pub record Unkept (rules : ServeRules) (initial : SessionState) (lines : List (List ℕ))
    (line : List ℕ) (now : SessionState) (holds_back : Bool) : Type 0 where
  pub written : Appends initial.written now.written (outputs rules initial.object lines)
  pub none : now.buffer.text.items ≡ []
  pub sound : now.failed ≡ initial.failed
  pub passed : holds_back ≡ false
  pub reached : now.object ≡ after_lines rules initial.object (lines ++ line ∷ [])

-- if a refusal ends the service, no line of these was refused
abbrev pub RefusesNoLine : ServeRules → ObjectState → List (List ℕ) → Type 0
RefusesNoLine rules s lines = rules.stop_at_refusal ≡ true → NoneRefused rules s lines

-- a line was refused, after lines that were not, and is the last
pub record Refused (rules : ServeRules) (s : ObjectState) (lines : List (List ℕ)) (line : List ℕ)
    : Type 0 where
  pub stops_at_refusal : rules.stop_at_refusal ≡ true
  pub none : NoneRefused rules s lines
  pub refused : is_refused (line_outcome rules (after_lines rules s lines) line) ≡ true

-- ---- the session

-- two sessions have the same rules, and borrow the same store and sink
pub record IsSame {W S : Type 0} (initial now : Session W S) : Type 0 where
  pub rules : now.rules ≡ initial.rules
  pub store : now.store.ghost_name ≡ initial.store.ghost_name
  pub sink : now.sink.ghost_name ≡ initial.sink.ghost_name

-- what a session has now
abbrev pub session_state_of : {W S : Type 0} → (W → Option (List ℕ)) → (W → Bool) →
    (S → ObjectState) → Session W S → SessionState
session_state_of contents has_failed state s =
    session_state contents has_failed state s.store.now s.sink.now s.buffer.now

-- no reply waits, and no reply is held back
pub record IsReady {W S : Type 0} (holds_back : W → Bool) (now : Session W S) : Type 0 where
  pub text : now.buffer.now.text.items ≡ []
  pub ends : now.buffer.now.ends.items ≡ []
  pub passed : holds_back now.sink.now ≡ false

module _ {W S F : Type 0} (contents : W → Option (List ℕ)) (has_failed holds_back : W → Bool)
    (state : S → ObjectState) (lends has_kept : S → S → Type 0)
    (has_lost : S → ObjectState → S → F → Type 0) where
  -- a session took these lines, none of which ended it
  pub record HasServed (initial : Session W S) (lines : List (List ℕ)) (now : Session W S) : Type 0
    where
      pub same : IsSame initial now
      pub lent : KeepsSince lends initial.store.now now.store.now
      pub serving : HasAnswered initial.rules
          (session_state_of contents has_failed state initial) lines
          (session_state_of contents has_failed state now)
      pub spared : RefusesNoLine initial.rules (state initial.store.now) lines
      pub keeps : KeepsSince has_kept initial.store.now now.store.now

  -- a session took these lines, and a write failed
  pub record HasFailed (initial : Session W S) (lines : List (List ℕ)) (now : Session W S)
      (unwritten : ℕ) : Type 0 where
    pub same : IsSame initial now
    pub lent : KeepsSince lends initial.store.now now.store.now
    pub failing : FailsToWrite initial.rules
        (session_state_of contents has_failed state initial) lines
        (session_state_of contents has_failed state now) unwritten
    pub keeps : KeepsSince has_kept initial.store.now now.store.now

  -- a session took these lines, and the change of one more line was not kept
  pub record HasLost (initial : Session W S) (lines : List (List ℕ)) (at : Option (List ℕ))
      (now : Session W S) (why : F) : Type 0 where
    pub line : List ℕ
    pub is : at ≡ Some line
    pub same : IsSame initial now
    pub lent : KeepsSince lends initial.store.now now.store.now
    pub unkept : Unkept initial.rules (session_state_of contents has_failed state initial) lines
        line
        (session_state_of contents has_failed state now) (holds_back now.sink.now)
    pub spared : RefusesNoLine initial.rules (state initial.store.now) lines
    pub fails : KeepsNoMore has_kept has_lost initial.store.now
        (after_lines initial.rules (state initial.store.now) lines) now.store.now why

  -- a session took these lines and one more, which was refused and is the last
  pub record HasRefused (initial : Session W S) (lines : List (List ℕ)) (at : Option (List ℕ))
      (now : Session W S) : Type 0 where
    pub line : List ℕ
    pub is : at ≡ Some line
    pub same : IsSame initial now
    pub lent : KeepsSince lends initial.store.now now.store.now
    pub serving : HasAnswered initial.rules (session_state_of contents has_failed state initial)
        (lines ++ line ∷ []) (session_state_of contents has_failed state now)
    pub refused : Refused initial.rules (state initial.store.now) lines line
    pub keeps : KeepsSince has_kept initial.store.now now.store.now

  -- a session took these lines and stopped, between two lines or at one
  abbrev pub HasStopped : Session W S → List (List ℕ) → Option (List ℕ) → Session W S → Stop F
      → Type 0
  HasStopped initial lines at now why =
      MatchStop why (HasServed initial lines now) (HasFailed initial lines now)
      (HasLost initial lines at now) (HasRefused initial lines at now)
