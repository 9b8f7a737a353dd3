-- What one reader at work gives back.
use Rattle.std.specs.Prelude.{◌≡◌, ℕ, Bool, List, length, IfOk, IfErr, OnOk}
use Rattle.osn_days.specs.Rules.{newest_rules}
use Rattle.osn_register.specs.declared.query.Query.{Query}
use Rattle.osn_live.specs.declared.work.WorkResult.{WorkResult}
use Rattle.osn_live.specs.declared.work_fault.WorkFault.{WorkFault}
use Rattle.osn_live.specs.Running.{ReaderState}
use Rattle.osn_live.specs.Desk.{AreReplies, HearsOf}
use Rattle.osn_live.specs.Faults.{IsOfGate}
use Rattle.osn_live.specs.InsideFaults.{by_work}

-- the fault is GateClosed only if the gate is not known to let every item pass
abbrev pub IsOfPassing : Bool → WorkFault → Type 0
IsOfPassing passes fault = IsOfGate passes (by_work fault)

-- what this reader gives back once it has worked on these questions, at a gate and under the number
-- `who`
pub record IsWork {G : Type 0} (is_open : G → Bool) (let_pass saw_end : G → ℕ → ℕ → Type 0)
    (at : G) (who : ℕ) (reader : ReaderState) (questions : List Query) (w : WorkResult) : Type 0
  where
    pub origin : w.reader.origin ≡ reader.origin
    pub replies : IfOk w.replies
        (λ rs. AreReplies newest_rules reader.origin.limits w.reader.seen 0 questions rs.items)
    pub gate : IfErr w.replies (IsOfPassing (is_open at))
    pub hears : OnOk w.replies (HearsOf let_pass saw_end at who (length questions))
