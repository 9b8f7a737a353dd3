-- What holds if the service stopped, by the reason.
use Rattle.std.specs.Prelude.{ℕ}
use Rattle.osn_service.specs.declared.stop.Stop.{Stop}
use Rattle.osn_service.specs.declared.stop.Stop.TheVariants as stop
use Rattle.osn_service.specs.declared.store.StoreFault.{StoreFault}
use Rattle.osn_service.specs.declared.store.StoreFault.TheVariants.{NoMemory, NotKept}

-- a fact for each reason: for a failed write, about the number of replies that were not written
-- whole
abbrev pub MatchStop : {F : Type 0} → Stop F → Type 0 → (ℕ → Type 0) → (F → Type 0) → Type 0
    → Type 0
MatchStop stop.NoMemory P Q R T = P
MatchStop (stop.WriteFailed failed) P Q R T = Q failed.unwritten
MatchStop (stop.NotKept why) P Q R T = R why
MatchStop stop.Refused P Q R T = T

-- the reason for which the service stops at a fault of a store
abbrev pub by_store : {F : Type 0} → StoreFault F → Stop F
by_store NoMemory = stop.NoMemory
by_store (NotKept why) = stop.NotKept why
