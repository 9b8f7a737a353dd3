-- What a store has done with a change.
use Rattle.std.specs.Prelude.{◌≡◌}
use Rattle.osn_core.specs.Sequential.{ObjectState}
use Rattle.osn_service.specs.declared.store.StoreFault.{StoreFault}
use Rattle.osn_service.specs.declared.store.StoreFault.TheVariants.{NoMemory, NotKept}

-- a fact if memory ran out, and one for the reason for which a change was not kept
abbrev pub MatchStoreFault : {F : Type 0} → StoreFault F → Type 0 → (F → Type 0) → Type 0
MatchStoreFault NoMemory P Q = P
MatchStoreFault (NotKept why) P Q = Q why

-- what held since any moment still does
abbrev pub KeepsSince : {S : Type 0} → (S → S → Type 0) → S → S → Type 0
KeepsSince {S} Holds old new = (initial : S) → Holds initial old → Holds initial new

-- the store has this object now, and the changes that were kept since any moment still are
pub record Makes {S : Type 0} (state : S → ObjectState) (has_kept : S → S → Type 0) (old new : S)
    (object : ObjectState) : Type 0 where
  pub is : state new ≡ object
  pub keeps : KeepsSince has_kept old new

-- the store has this object now, and the change that made it was not kept
pub record FailsToKeep {S F : Type 0} (state : S → ObjectState) (has_kept : S → S → Type 0)
    (has_lost : S → ObjectState → S → F → Type 0) (old new : S) (object : ObjectState) (why : F)
    : Type 0 where
  pub is : state new ≡ object
  pub fails : (initial : S) → has_kept initial old → has_lost initial (state old) new why
