-- Control: which steps are enabled, and how they move it. It holds no register: the live side, the
-- phase, how many edits the standby lacks, and where each reader is.
use Rattle.std.specs.Prelude.{ℕ, ◌-◌, ◌==◌, Bool, true, false, if◌then◌else◌, List, replicate}
use Rattle.std.specs.Prelude.{slice_get, slice_set, Option, Some, None}
use Rattle.std.specs.List.{list_any}
use Rattle.osn_register.specs.declared.query.Query.{Query}
use Rattle.osn_core.specs.declared.phase.Phase.{Phase}
use Rattle.osn_core.specs.declared.phase.Phase.TheVariants.{Ready, Draining, Claimed}
use Rattle.osn_core.specs.declared.reader.ReaderState.{ReaderState}
use Rattle.osn_core.specs.declared.reader.ReaderState.TheVariants.{Idle, Noted, Marked, Entered}
use Rattle.osn_core.specs.declared.reader.ReaderState.TheVariants.{Answered}
use Rattle.osn_core.specs.declared.step.Out.{Out}
use Rattle.osn_core.specs.declared.step.Out.TheVariants as Says

-- a side is 0 or 1, and the first of the readers is counted 1
pub record Control : Type 0 where
  pub side : ℕ
  pub phase : Phase
  pub lag : ℕ
  pub readers : List ReaderState

abbrev pub all_idle : ℕ → List ReaderState
all_idle readers = replicate readers Idle

abbrev pub first_control : ℕ → Control
first_control readers = record { side = 0; phase = Ready; lag = 0; readers = all_idle readers }

-- the state of a reader, or None if there is no such reader
abbrev pub reader_at : List ReaderState → ℕ → Option ReaderState
reader_at readers reader = if reader == 0 then None else slice_get readers (reader - 1)

-- the readers with this state of the reader of a number. There is no reader 0
abbrev pub set_reader : List ReaderState → ℕ → ReaderState → List ReaderState
set_reader readers reader at = if reader == 0 then readers else slice_set readers (reader - 1) at

-- what a step gives a reader, and where it leaves it
pub record Move : Type 0 where
  pub out : Out
  pub at : ReaderState

-- what a step gives a reader for which it is not enabled
abbrev pub stays : ReaderState → Move
stays at = record { out = Says.NotNow; at = at }

-- a reader that is idle notes the query and the live side
abbrev pub look : ℕ → Query → ReaderState → Move
look live query Idle = record { out = Says.Moved; at = Noted query live }
look live query at = stays at

-- a reader that has noted a side marks it
abbrev pub pin : ReaderState → Move
pin (Noted query side) = record { out = Says.Moved; at = Marked query side }
pin at = stays at

-- a reader that has marked a side enters it if it is live, with the number of editions then.
-- Otherwise it notes the live side
abbrev pub entering : Bool → ℕ → ℕ → Query → ℕ → Move
entering true live editions query side = record {
  out = Says.Entered;
  at = Entered query side editions;
}
entering false live editions query side = record { out = Says.Again; at = Noted query live }

abbrev pub check : ℕ → ℕ → ReaderState → Move
check live editions (Marked query side) = entering (side == live) live editions query side
check live editions at = stays at

-- a reader that was answered becomes idle
abbrev pub leave : ReaderState → Move
leave (Answered side edition) = record { out = Says.Moved; at = Idle }
leave at = stays at

-- a step gives nothing if there is no such reader
abbrev pub out_at : (ReaderState → Move) → Option ReaderState → Out
out_at move None = Says.NotNow
out_at move (Some at) = (move at).out

abbrev pub readers_after : (ReaderState → Move) → Option ReaderState → List ReaderState → ℕ →
    List ReaderState
readers_after move None readers reader = readers
readers_after move (Some at) readers reader = set_reader readers reader (move at).at

-- a reader marks a side from its mark until it leaves
abbrev pub marks : ℕ → ReaderState → Bool
marks side Idle = false
marks side (Noted query noted) = false
marks side (Marked query marked) = marked == side
marks side (Entered query marked edition) = marked == side
marks side (Answered marked edition) = marked == side

abbrev pub is_marked : ℕ → List ReaderState → Bool
is_marked side readers = list_any (λ at. marks side at) readers

-- the standby is claimed if it is draining and not marked
abbrev pub claim_out : Bool → Phase → Out
claim_out marked Draining = if marked then Says.NotNow else Says.Moved
claim_out marked phase = Says.NotNow

abbrev pub phase_claimed : Bool → Phase → Phase
phase_claimed marked Draining = if marked then Draining else Claimed
phase_claimed marked phase = phase

-- a standby that is claimed takes in an edit that it lacks, and is ready if it lacks none
abbrev pub absorb_out : Bool → Phase → Out
absorb_out none Claimed = if none then Says.Ready else Says.Moved
absorb_out none phase = Says.NotNow

abbrev pub phase_absorbed : Bool → Phase → Phase
phase_absorbed none Claimed = if none then Ready else Claimed
phase_absorbed none phase = phase

abbrev pub lag_absorbed : ℕ → Phase → ℕ
lag_absorbed lag Claimed = lag - 1
lag_absorbed lag phase = lag
