-- The faults of the running register, by number and name: this project's profile.
use Rattle.std.specs.Prelude.{◌≡◌, ◌⊎◌, ℕ, ◌<◌, ◌≤◌, Bool, false, List, codes}
use Rattle.osn_register.specs.declared.refusal.Refusal.{Refusal}
use Rattle.osn_register.specs.declared.refusal.Refusal.TheVariants as Refused
use Rattle.osn_live.specs.declared.faults.PublishFault.{PublishFault}
use Rattle.osn_live.specs.declared.faults.PublishFault.TheVariants as Publish
use Rattle.osn_live.specs.declared.faults.DeskFault.{DeskFault}
use Rattle.osn_live.specs.declared.faults.DeskFault.TheVariants as Desk

-- the refusal of the sequential object for a fault of a publish
abbrev pub refusal_of : PublishFault → Refusal
refusal_of Publish.NothingPending = Refused.NothingPending
refusal_of Publish.EditionsFull = Refused.EditionsFull
refusal_of Publish.NoMemory = Refused.NoMemory

-- the numbers of readers that no register is opened for: readers are 1 to 64
abbrev pub IsBadCount : ℕ → Type 0
IsBadCount readers = (readers ≡ 0) ⊎ (64 < readers)

abbrev pub desk_fault_number : DeskFault → ℕ
desk_fault_number Desk.NoMemory = 90
desk_fault_number (Desk.HistoryBroken reader last editions) = 91
desk_fault_number Desk.BadCount = 92
desk_fault_number Desk.NoPlace = 93
desk_fault_number Desk.GateClosed = 94

abbrev pub desk_fault_name : DeskFault → List ℕ
desk_fault_name Desk.NoMemory = codes "NoMemory"
desk_fault_name (Desk.HistoryBroken reader last editions) = codes "HistoryBroken"
desk_fault_name Desk.BadCount = codes "BadCount"
desk_fault_name Desk.NoPlace = codes "NoPlace"
desk_fault_name Desk.GateClosed = codes "GateClosed"

-- what a fault shows about a desk, which had this many lists of questions and in the end this many
-- editions
abbrev pub IsDeskFault : ℕ → ℕ → DeskFault → Type 0
IsDeskFault lists published Desk.NoMemory = Unit {0}
IsDeskFault lists published (Desk.HistoryBroken reader last editions) =
    (1 ≤ reader) × (reader ≤ lists) × (editions ≡ published) × (published < last)
IsDeskFault lists published Desk.BadCount = IsBadCount lists
IsDeskFault lists published Desk.NoPlace = Unit {0}
IsDeskFault lists published Desk.GateClosed = Unit {0}

-- the fault is GateClosed only if the gate is not known to let every item pass
abbrev pub IsOfGate : Bool → DeskFault → Type 0
IsOfGate passes Desk.NoMemory = Unit {0}
IsOfGate passes (Desk.HistoryBroken reader last editions) = Unit {0}
IsOfGate passes Desk.BadCount = Unit {0}
IsOfGate passes Desk.NoPlace = Unit {0}
IsOfGate passes Desk.GateClosed = passes ≡ false
