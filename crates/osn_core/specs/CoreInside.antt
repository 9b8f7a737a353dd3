-- How the core keeps its state: what holds of control and the sequential object at every moment.
use Rattle.std.specs.Prelude.{◌≡◌, ℕ, ◌<◌, ◌+◌, ◌-◌, ◌⊎◌, [], length, Option, Some, None}
use Rattle.osn_core.specs.declared.phase.Phase.{Phase}
use Rattle.osn_core.specs.declared.phase.Phase.TheVariants.{Ready, Draining, Claimed}
use Rattle.osn_core.specs.declared.reader.ReaderState.{ReaderState}
use Rattle.osn_core.specs.declared.reader.ReaderState.TheVariants.{Idle, Noted, Marked, Entered}
use Rattle.osn_core.specs.declared.reader.ReaderState.TheVariants.{Answered}
use Rattle.osn_core.specs.declared.machine.Core.TheInside.{Inside}
use Rattle.osn_core.specs.Sequential.{ObjectState, last_batch}
use Rattle.osn_core.specs.Control.{reader_at}
use Rattle.osn_core.specs.Machine.{CoreState}

abbrev pub core_in : Inside → CoreState
core_in c = record {
  object = c.copies.object;
  control = record { side = c.side; phase = c.phase; lag = c.copies.lag; readers = c.readers };
}

-- what the standby lacks, by the phase
abbrev pub IsLag : ObjectState → ℕ → Phase → Type 0
IsLag s lag Ready = lag ≡ 0
IsLag s lag Draining = (s.pending ≡ []) × (lag ≡ length (last_batch s.batches))
IsLag s lag Claimed = s.pending ≡ []

-- a reader is in the live side with all editions, or, while it is draining, in the standby with all
-- editions except the last
abbrev pub IsIn : ℕ → Phase → ℕ → ℕ → ℕ → Type 0
IsIn live phase editions side edition =
    ((side ≡ live) × (edition ≡ editions))
    ⊎ ((side ≡ 1 - live) × (phase ≡ Draining) × (edition + 1 ≡ editions))

abbrev pub IsPlaced : ℕ → Phase → ℕ → Option ReaderState → Type 0
IsPlaced live phase editions None = Unit {0}
IsPlaced live phase editions (Some Idle) = Unit {0}
IsPlaced live phase editions (Some (Noted query side)) = Unit {0}
IsPlaced live phase editions (Some (Marked query side)) = Unit {0}
IsPlaced live phase editions (Some (Entered query side edition)) =
    IsIn live phase editions side edition
IsPlaced live phase editions (Some (Answered side edition)) = IsIn live phase editions side edition

pub record IsCore (c : CoreState) : Type 0 where
  pub side : c.control.side < 2
  pub lag : IsLag c.object c.control.lag c.control.phase
  pub readers : (reader : ℕ) → IsPlaced c.control.side c.control.phase (length c.object.batches)
      (reader_at c.control.readers reader)

abbrev pub HoldsCore : Inside → Type 0
HoldsCore c = IsCore (core_in c)
