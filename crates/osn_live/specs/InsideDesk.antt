-- What readers at work give back, and what was started.
use Rattle.std.specs.Prelude.{◌≡◌, ◌⊎◌, ℕ, ◌+◌, ◌<◌, ◌≤◌, Bool, List, [], ◌∷◌, ◌++◌, length, Vec}
use Rattle.std.specs.Prelude.{Result, Err}
use Rattle.std.specs.List.{All}
use Rattle.std.specs.declared.alloc.Global.{Global}
use Rattle.core.specs.declared.thread.PromisedHandle.{PromisedHandle}
use Rattle.osn_register.specs.declared.query.Query.{Query}
use Rattle.osn_core.specs.declared.step.Reply.{Reply}
use Rattle.osn_live.specs.declared.faults.DeskFault.{DeskFault}
use Rattle.osn_live.specs.declared.faults.DeskFault.TheVariants as Desk
use Rattle.osn_live.specs.declared.protocol.Origin.{Origin}
use Rattle.osn_live.specs.Desk.{HearsOfLists}
use Rattle.osn_live.specs.Faults.{IsOfGate}
use Rattle.osn_live.specs.InsideFaults.{by_work}
use Rattle.osn_live.specs.declared.work.WorkResult.{WorkResult}
use Rattle.osn_live.specs.declared.work.Works.{Works}
use Rattle.osn_live.specs.declared.work_fault.WorkFault.{WorkFault}

-- what a fault shows about a desk, as in IsDeskFault, once the count of lists was found good
abbrev pub IsFaultAt : ℕ → ℕ → DeskFault → Type 0
IsFaultAt lists published Desk.NoMemory = Unit {0}
IsFaultAt lists published (Desk.HistoryBroken reader last editions) =
    (1 ≤ reader) × (reader ≤ lists) × (editions ≡ published) × (published < last)
IsFaultAt lists published Desk.BadCount = ⊥
IsFaultAt lists published Desk.NoPlace = Unit {0}
IsFaultAt lists published Desk.GateClosed = Unit {0}

-- the fault of a reader that has worked: its own fault, or its last edition is above those that
-- were published
abbrev pub IsFaultOf : ℕ → ℕ → ℕ → Result (Vec Reply Global) WorkFault → DeskFault → Type 0
IsFaultOf who seen published replies fault =
    ((own : WorkFault) × (replies ≡ Err own) × (fault ≡ by_work own))
    ⊎ ((fault ≡ Desk.HistoryBroken who seen published) × (published < seen))

-- a reader of this origin works on this list
pub record IsStarted {G : Type 0} (o : Origin) (h : PromisedHandle WorkResult (Works G))
    (list : Vec Query Global) : Type 0 where
  pub reader : h.promise.0.value.origin ≡ o
  pub list_is : h.promise.1.value ≡ list

-- a reader of this origin works on each list, in its place
abbrev pub AreStarted : {G : Type 0} → Origin → List (PromisedHandle WorkResult (Works G)) →
    List (Vec Query Global) → Type 0
AreStarted o [] [] = Unit {0}
AreStarted o (h ∷ hs) (l ∷ ls) = IsStarted o h l × AreStarted o hs ls
AreStarted o [] (l ∷ ls) = ⊥
AreStarted o (h ∷ hs) [] = ⊥

-- each reader works at this gate
abbrev pub AreAt : {G : Type 0} → G → List (PromisedHandle WorkResult (Works G)) → Type 0
AreAt gate handles = All (λ h. h.promise.2.value ≡ gate) handles

-- a fault of readers that all work at one gate: it is GateClosed only if that gate is not known to
-- let every item pass
pub record IsOfTheirGate {G : Type 0} (is_open : G → Bool)
    (handles : List (PromisedHandle WorkResult (Works G))) (f : DeskFault) : Type 0 where
  pub of : (gate : G) → AreAt gate handles → IsOfGate (is_open gate) f

-- the handles are numbered from this number, in their order
abbrev pub AreNumbered : {G : Type 0} → ℕ → List (PromisedHandle WorkResult (Works G)) → Type 0
AreNumbered who [] = Unit {0}
AreNumbered who (h ∷ hs) = (h.promise.3 ≡ who) × AreNumbered (who + 1) hs

-- readers that all work at one gate called it for the items of each list
pub record CallTheirGate {G : Type 0} (let_pass saw_end : G → ℕ → ℕ → Type 0)
    (handles : List (PromisedHandle WorkResult (Works G))) (lists : List (Vec Query Global)) : Type
    0
  where
    pub of : (gate : G) → AreAt gate handles → HearsOfLists let_pass saw_end gate 1 lists

-- the reader of this number, counted from 1, brought back work whose last edition is this
pub record HasSeen {G : Type 0} (Kept : Works G → WorkResult → Type 0)
    (handles : List (PromisedHandle WorkResult (Works G))) (reader last : ℕ) : Type 0 where
  pub before : List (PromisedHandle WorkResult (Works G))
  pub handle : PromisedHandle WorkResult (Works G)
  pub after : List (PromisedHandle WorkResult (Works G))
  pub place : handles ≡ before ++ handle ∷ after
  pub number : reader ≡ length before + 1
  pub work : WorkResult
  pub kept : Kept handle.promise work
  pub seen : length work.reader.seen ≡ last

-- the reader that a broken history names brought back work whose last edition is the one that is
-- named
abbrev pub NamesReader : {G : Type 0} → (Works G → WorkResult → Type 0)
    → List (PromisedHandle WorkResult (Works G)) → DeskFault → Type 0
NamesReader Kept handles Desk.NoMemory = Unit {0}
NamesReader Kept handles (Desk.HistoryBroken reader last editions) =
    HasSeen Kept handles reader last
NamesReader Kept handles Desk.BadCount = Unit {0}
NamesReader Kept handles Desk.NoPlace = Unit {0}
NamesReader Kept handles Desk.GateClosed = Unit {0}
