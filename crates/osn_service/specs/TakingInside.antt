-- How taking lines ended, as the service says it.
use Rattle.std.specs.Prelude.{◌≡◌, ◌≤◌, ◌-◌, ◌+◌, ⊤, ℕ, Bool, true, List}
use Rattle.std.specs.Prelude.{Option, Result, Ok, Err}
use Rattle.std.specs.Prelude.{length, take, IfSome}
use Rattle.std.specs.Io.KnownBytes.{IsAtEnd}
use Rattle.osn_core.specs.Sequential.{ObjectState}
use Rattle.osn_lines.specs.declared.fault.EndedEarly.{EndedEarly}
use Rattle.osn_lines.specs.declared.fault.TakeFault.{TakeFault}
use Rattle.osn_lines.specs.declared.fault.TakeFault.TheVariants as take
use Rattle.osn_lines.specs.Faults.{IsReadFault}
use Rattle.osn_lines.specs.Lines.{lines}
use Rattle.osn_lines.specs.Streams.{Input, Output}
use Rattle.osn_lines.specs.Takers.{HasRead}
use Rattle.osn_service.specs.declared.fault.ServeFault.TheVariants.{NoMemory, ReadFault, WriteFault}
use Rattle.osn_service.specs.declared.fault.ServiceFault.{ServiceFault}
use Rattle.osn_service.specs.declared.fault.ServiceFault.TheVariants.{Serve, NotKept}
use Rattle.osn_service.specs.declared.rules.ServeRules.{ServeRules}
use Rattle.osn_service.specs.declared.service.End.{End}
use Rattle.osn_service.specs.declared.service.End.TheVariants.{AtEnd, AtRefusal, ByFault}
use Rattle.osn_service.specs.declared.service.LinesTaken.{LinesTaken}
use Rattle.osn_service.specs.declared.stop.Stop.{Stop}
use Rattle.osn_service.specs.declared.stop.Stop.TheVariants as stop
use Rattle.osn_service.specs.Faults.{MatchFault, MatchServiceFault, RepliesFail}
use Rattle.osn_service.specs.Refusals.{NoneRefused, IsFirstRefused}
use Rattle.osn_service.specs.Served.{after_lines}
use Rattle.osn_service.specs.Serves.{ServesUnkept}
use Rattle.osn_service.specs.ServiceInside.{InPart}
use Rattle.osn_service.specs.Served.{line_text}
use Rattle.osn_service.specs.Session.{line_after}
use Rattle.osn_service.specs.SessionInside.{SessionState, HasAnswered, KeepsNoMore}
use Rattle.osn_service.specs.Store.{KeepsSince}

-- the result of taking lines that ended early, after n lines
abbrev pub early_end : {F : Type 0} → ℕ → TakeFault (Stop F)
    → Result LinesTaken (EndedEarly (ServiceFault F))
early_end n take.NoMemory = Ok (record { lines = n; end = ByFault NoMemory })
early_end n take.ReadFault = Ok (record { lines = n; end = ByFault ReadFault })
early_end n (take.Stopped stop.NoMemory) = Ok (record { lines = n; end = ByFault NoMemory })
early_end n (take.Stopped (stop.WriteFailed failed)) =
    Err (record { lines = n - failed.unwritten; cause = Serve WriteFault })
early_end n (take.Stopped (stop.NotKept why)) = Err (record { lines = n; cause = NotKept why })
early_end n (take.Stopped stop.Refused) = Ok (record { lines = n + 1; end = AtRefusal })

-- the replies that were not written are no more than the lines that were taken
abbrev pub IsWithin : {F : Type 0} → ℕ → TakeFault (Stop F) → Type 0
IsWithin n take.NoMemory = ⊤
IsWithin n take.ReadFault = ⊤
IsWithin n (take.Stopped stop.NoMemory) = ⊤
IsWithin n (take.Stopped (stop.WriteFailed failed)) = failed.unwritten ≤ n
IsWithin n (take.Stopped (stop.NotKept why)) = ⊤
IsWithin n (take.Stopped stop.Refused) = ⊤

-- n lines were answered, the first n of the input if that is known, and their replies are written
-- or wait
pub record AnswersFirst (rules : ServeRules) (initial now : SessionState) (input : Option (List ℕ))
    (n : ℕ) : Type 0 where
  pub lines_taken : List (List ℕ)
  pub serving : HasAnswered rules initial lines_taken now
  pub count : n ≡ length lines_taken
  pub first : IfSome input (λ bytes. take (length lines_taken) (lines bytes) ≡ lines_taken)

-- the first lines of the input were answered, a write failed, and a prefix of their replies with
-- those to n lines is written
pub record AnswersInPart (rules : ServeRules) (initial now : SessionState) (input : Option (List ℕ))
    (n : ℕ) : Type 0 where
  pub lines_taken : List (List ℕ)
  pub part : InPart (line_text rules) (line_after rules) initial.object now.object lines_taken
      initial.written now.written n
  pub reason : RepliesFail rules initial.object initial.failed now.failed lines_taken
  pub first : IfSome input (λ bytes. take (length lines_taken) (lines bytes) ≡ lines_taken)

-- if a refusal ends the service, none of the first n lines was refused
abbrev pub SparedFirst : ServeRules → ObjectState → Option (List ℕ) → ℕ → Type 0
SparedFirst rules s input n =
    rules.stop_at_refusal ≡ true
    → IfSome input (λ bytes. NoneRefused rules s (take n (lines bytes)))

-- why no more than n lines were answered if no write failed, and how far the source was read
abbrev pub EndsTaking : ServeRules → ObjectState → Input → ℕ → End → Type 0
EndsTaking rules s i n AtEnd =
    IfSome i.bytes (λ bytes. n ≡ length (lines bytes)) × IsAtEnd i.rest
    × (i.unread ≡ i.unread_before) × SparedFirst rules s i.bytes n
EndsTaking rules s i n AtRefusal =
    (rules.stop_at_refusal ≡ true)
    × IfSome i.bytes (λ bytes. IsFirstRefused rules s (lines bytes) n)
    × (i.unread ≡ i.unread_before)
EndsTaking rules s i n (ByFault NoMemory) =
    (i.unread ≡ i.unread_before) × SparedFirst rules s i.bytes n
EndsTaking rules s i n (ByFault ReadFault) =
    HasRead i.bytes i.rest n × IsReadFault i.unread i.bytes × SparedFirst rules s i.bytes n
EndsTaking rules s i n (ByFault WriteFault) = ⊥

-- what a sink had at a moment, and has now
abbrev pub output_since : SessionState → Option (List ℕ) → Bool → Bool → Output
output_since initial new unwritten holds_back = record {
  old = initial.written;
  new = new;
  unwritten_before = initial.failed;
  unwritten = unwritten;
  holds_back = holds_back;
}

-- a session took lines, all of them or as many as it says; or a write failed; or a change was not
-- kept
abbrev pub HasTaken : {F : Type 0} → ServeRules → SessionState → SessionState → Bool → Input
    → Result LinesTaken (EndedEarly (ServiceFault F)) → Type 0
HasTaken rules initial now holds_back i (Ok taken) =
    AnswersFirst rules initial now i.bytes taken.lines
    × EndsTaking rules initial.object i taken.lines taken.end
HasTaken rules initial now holds_back i (Err end) =
    MatchServiceFault end.cause
    (λ fault. MatchFault fault ⊥ ⊥ (AnswersInPart rules initial now i.bytes end.lines))
    (λ why. ServesUnkept rules initial.object now.object i
    (output_since initial now.written now.failed holds_back) end.lines)

-- what a store has kept when taking lines ended
abbrev pub HasKept : {S F : Type 0} → (S → S → Type 0) → (S → ObjectState → S → F → Type 0)
    → ServeRules → ObjectState → S → S → Input → Result LinesTaken (EndedEarly (ServiceFault F))
    → Type 0
HasKept has_kept has_lost rules s old new i (Ok taken) = KeepsSince has_kept old new
HasKept has_kept has_lost rules s old new i (Err end) =
    MatchServiceFault end.cause (λ fault. KeepsSince has_kept old new)
    (λ why. (before : ObjectState)
    × IfSome i.bytes (λ bytes. before ≡ after_lines rules s (take end.lines (lines bytes)))
    × KeepsNoMore has_kept has_lost old before new why)
