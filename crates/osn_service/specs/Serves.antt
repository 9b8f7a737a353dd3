-- What a service has done when it ended.
use Rattle.std.specs.Prelude.{◌≡◌, ◌<◌, ◌+◌, ℕ, true, false, IfSome, Result, ⊤, length, take}
use Rattle.std.specs.Io.KnownBytes.{IsAtEnd}
use Rattle.osn_core.specs.Sequential.{ObjectState}
use Rattle.osn_lines.specs.declared.fault.EndedEarly.{EndedEarly}
use Rattle.osn_lines.specs.Faults.{IsReadFault}
use Rattle.osn_lines.specs.Lines.{lines}
use Rattle.osn_lines.specs.Streams.{Input, Output}
use Rattle.osn_lines.specs.Takers.{HasRead}
use Rattle.osn_service.specs.declared.fault.ServeFault.{ServeFault}
use Rattle.osn_service.specs.declared.fault.ServiceFault.{ServiceFault}
use Rattle.osn_service.specs.declared.rules.ServeRules.{ServeRules}
use Rattle.osn_service.specs.declared.service.Served.{Served}
use Rattle.osn_service.specs.Faults.{MatchEnd, MatchService, IsUnwritten}
use Rattle.osn_service.specs.Refusals.{NoneRefused, IsFirstRefused}
use Rattle.osn_service.specs.Served.{WritesAll, WritesFirst, WritesInPart, IsStateAfter}
use Rattle.osn_service.specs.Served.{IsAfterLines, IsAfterOrNext, after_lines}

-- The lines of an input were answered by these rules from the object s, and the object is t then.
pub record Serves (rules : ServeRules) (s t : ObjectState) (i : Input) (o : Output)
    (end : Result ℕ (EndedEarly ServeFault)) : Type 0 where
  -- Exactly the replies to all lines are written, and their number is returned. If it ended early,
  -- exactly those to the first lines are written. If a write failed, a prefix of all replies is
  -- written, with those to as many lines whole as the number says.
  pub written : IfSome i.bytes (λ bytes. MatchEnd end
      (WritesAll rules s o.old o.new (lines bytes))
      (WritesFirst rules s o.old o.new (lines bytes))
      (WritesFirst rules s o.old o.new (lines bytes))
      (WritesInPart rules s o.old o.new (lines bytes)))
  -- The object is in the state after all lines. If it ended early, in that after those lines. If a
  -- write failed, in that after those lines or one more.
  pub object : IfSome i.bytes (λ bytes. MatchEnd end
      (λ _. IsStateAfter rules s t (lines bytes))
      (IsAfterLines rules s t (lines bytes))
      (IsAfterLines rules s t (lines bytes))
      (IsAfterOrNext rules s t (lines bytes)))
  -- The bytes that are written are passed on, except after a failed write.
  pub passed : MatchEnd end (λ _. o.holds_back ≡ false) (λ _. o.holds_back ≡ false)
      (λ _. o.holds_back ≡ false) (λ _. ⊤)
  -- The source is read to its end. A line that a failed read cut short is not answered.
  pub read : MatchEnd end (λ _. IsAtEnd i.rest) (λ _. ⊤) (HasRead i.bytes i.rest) (λ _. ⊤)
  -- If a read fault says so, the source failed or gave no end in 4,294,967,295 reads. Otherwise it
  -- did not fail, except perhaps if a write failed.
  pub source : MatchEnd end (λ _. i.unread ≡ i.unread_before) (λ _. i.unread ≡ i.unread_before)
      (λ _. IsReadFault i.unread i.bytes) (λ _. ⊤)
  -- If a write fault says so the sink failed, or it may take a reply, with those that wait before
  -- it, in more writes than the 4,294,967,295 that are made. Otherwise it did not fail.
  pub sink : MatchEnd end (λ _. o.unwritten ≡ o.unwritten_before)
      (λ _. o.unwritten ≡ o.unwritten_before) (λ _. o.unwritten ≡ o.unwritten_before)
      (λ _. IsUnwritten rules s i.bytes o.unwritten)

-- If the service ends at a refusal, no line that was answered is refused.
abbrev pub RefusesNone : ServeRules → ObjectState → Input → Result ℕ (EndedEarly ServeFault)
    → Type 0
RefusesNone rules s i end =
    rules.stop_at_refusal ≡ true
    → IfSome i.bytes (λ bytes. MatchEnd end (λ _. NoneRefused rules s (lines bytes))
    (λ n. NoneRefused rules s (take n (lines bytes)))
    (λ n. NoneRefused rules s (take n (lines bytes))) (λ _. ⊤))

-- The first n lines were answered, the last of which is the first that is refused.
pub record ServesToRefusal (rules : ServeRules) (s t : ObjectState) (i : Input) (o : Output) (n : ℕ)
    : Type 0 where
  pub stops_at_refusal : rules.stop_at_refusal ≡ true
  pub written : IfSome i.bytes (λ bytes. WritesFirst rules s o.old o.new (lines bytes) n)
  pub object : IfSome i.bytes (λ bytes. IsAfterLines rules s t (lines bytes) n)
  pub first : IfSome i.bytes (λ bytes. IsFirstRefused rules s (lines bytes) n)
  pub passed : o.holds_back ≡ false
  pub source : i.unread ≡ i.unread_before
  pub sink : o.unwritten ≡ o.unwritten_before

-- The first n lines were answered, and the change that the next one made was not kept.
pub record ServesUnkept (rules : ServeRules) (s t : ObjectState) (i : Input) (o : Output) (n : ℕ)
    : Type 0 where
  pub written : IfSome i.bytes (λ bytes. WritesFirst rules s o.old o.new (lines bytes) n)
  pub next : IfSome i.bytes (λ bytes. n < length (lines bytes))
  pub object : IfSome i.bytes (λ bytes. IsAfterLines rules s t (lines bytes) (n + 1))
  pub none : rules.stop_at_refusal ≡ true
      → IfSome i.bytes (λ bytes. NoneRefused rules s (take n (lines bytes)))
  pub passed : o.holds_back ≡ false
  pub source : i.unread ≡ i.unread_before
  pub sink : o.unwritten ≡ o.unwritten_before

-- How the lines of an input were answered from a store, by how that ended.
abbrev pub ServesStore : {F : Type 0} → ServeRules → ObjectState → ObjectState → Input → Output
    → Result Served (EndedEarly (ServiceFault F)) → Type 0
ServesStore rules s t i o result =
    MatchService result (λ end. Serves rules s t i o end × RefusesNone rules s i end)
    (ServesToRefusal rules s t i o) (λ n why. ServesUnkept rules s t i o n)

-- What a store has kept when answering lines ended, and if it has not kept all, the state of the
-- object up to which it has.
abbrev pub KeepsStore : {S F : Type 0} → (S → S → Type 0) → (S → ObjectState → S → F → Type 0)
    → ServeRules → ObjectState → S → S → Input → Result Served (EndedEarly (ServiceFault F))
    → Type 0
KeepsStore {S} has_kept has_lost rules s old new i result =
    MatchService result (λ end. (initial : S) → has_kept initial old → has_kept initial new)
    (λ n. (initial : S) → has_kept initial old → has_kept initial new)
    (λ n why. (before : ObjectState)
    × IfSome i.bytes (λ bytes. before ≡ after_lines rules s (take n (lines bytes)))
    × ((initial : S) → has_kept initial old → has_lost initial before new why))
