-- What holds when answering lines ended, by its end, and why a write fails.
use Rattle.std.specs.Prelude.{◌≡◌, ◌≤◌, ◌⊎◌, ℕ, Bool, true, false, List, ◌∷◌, ◌++◌, length}
use Rattle.std.specs.Prelude.{Option, IfSome, Result, Ok, Err}
use Rattle.osn_lines.specs.declared.fault.EndedEarly.{EndedEarly}
use Rattle.osn_lines.specs.Lines.{lines}
use Rattle.osn_core.specs.Sequential.{ObjectState}
use Rattle.osn_service.specs.Served.{line_text, after_lines}
use Rattle.osn_service.specs.declared.fault.ServeFault.{ServeFault}
use Rattle.osn_service.specs.declared.fault.ServiceFault.{ServiceFault}
use Rattle.osn_service.specs.declared.fault.ServiceFault.TheVariants.{Serve, NotKept}
use Rattle.osn_service.specs.declared.service.Served.{Served}
use Rattle.osn_service.specs.declared.rules.ServeRules.{ServeRules}
use Rattle.osn_service.specs.declared.fault.ServeFault.TheVariants.{NoMemory, ReadFault, WriteFault}

-- a fact for each cause
abbrev pub MatchFault : ServeFault → Type 0 → Type 0 → Type 0 → Type 0
MatchFault NoMemory P Q R = P
MatchFault ReadFault P Q R = Q
MatchFault WriteFault P Q R = R

-- a fact about the number of lines, if all were answered, and for each cause for which not all were
abbrev pub MatchEnd : Result ℕ (EndedEarly ServeFault) → (ℕ → Type 0) → (ℕ → Type 0) →
    (ℕ → Type 0) → (ℕ → Type 0) → Type 0
MatchEnd (Ok n) All P Q R = All n
MatchEnd (Err end) All P Q R = MatchFault end.cause (P end.lines) (Q end.lines) (R end.lines)

-- a fact for each end of a service. The first is about an end that a service of an object alone has
-- too. The second is about the number of lines, if the last of them was refused and ended the
-- service. The third is about a change that was not kept
abbrev pub MatchServed : Bool → (ℕ → Type 0) → (ℕ → Type 0) → ℕ → Type 0
MatchServed false P Q n = P n
MatchServed true P Q n = Q n

abbrev pub MatchServiceFault : {F : Type 0} → ServiceFault F → (ServeFault → Type 0) → (F → Type 0)
    → Type 0
MatchServiceFault (Serve fault) P Q = P fault
MatchServiceFault (NotKept why) P Q = Q why

abbrev pub MatchService : {F : Type 0} → Result Served (EndedEarly (ServiceFault F))
    → (Result ℕ (EndedEarly ServeFault) → Type 0) → (ℕ → Type 0) → (ℕ → F → Type 0) → Type 0
MatchService (Ok served) P Q R = MatchServed served.refused (λ n. P (Ok n)) Q served.lines
MatchService (Err end) P Q R =
    MatchServiceFault end.cause (λ fault. P (Err (record { lines = end.lines; cause = fault })))
    (R end.lines)

-- the reply to one of the lines has this many bytes, or more
pub record HasReply (rules : ServeRules) (s : ObjectState) (lines : List (List ℕ)) (bytes : ℕ)
    : Type 0 where
  pub before : List (List ℕ)
  pub line : List ℕ
  pub rest : List (List ℕ)
  pub split : lines ≡ before ++ line ∷ rest
  pub long : bytes ≤ length (line_text rules (after_lines rules s before) line)

-- The reply to one of the lines, with the 65,535 bytes that may wait before it, has 4,294,967,295
-- bytes. A sink may take them in more writes than are made.
abbrev pub HasLongReply : ServeRules → ObjectState → List (List ℕ) → Type 0
HasLongReply rules s lines = HasReply rules s lines 4294901760

-- the sink failed, or it is as sound as it was and the reply to one of the lines is that long
abbrev pub RepliesFail : ServeRules → ObjectState → Bool → Bool → List (List ℕ) → Type 0
RepliesFail rules s old new lines =
    (new ≡ true) ⊎ ((new ≡ old) × HasLongReply rules s lines)

-- the sink failed, or the reply to one line of the input is that long
abbrev pub IsUnwritten : ServeRules → ObjectState → Option (List ℕ) → Bool → Type 0
IsUnwritten rules s input failed =
    (failed ≡ true) ⊎ IfSome input (λ bytes. HasLongReply rules s (lines bytes))
