-- An object and the file that it is kept in, as a store.
use Rattle.std.specs.Prelude.{◌≡◌, ℕ, List, Option}
use Rattle.osn_core.specs.Sequential.{ObjectState}
use Rattle.osn_folder.specs.declared.fault.KeptFileFault.{KeptFileFault}
use Rattle.osn_journal.specs.declared.kept_object.KeptObject.{KeptObject}
use Rattle.osn_journal.specs.KeptJournal.{KeepsAll, KeepsUntil, file_of}

-- what one lends, another does
pub record IsSame {K : Type 0} (initial now : KeptObject K) : Type 0 where
  pub object : now.object.ghost_name ≡ initial.object.ghost_name
  pub keeper : now.keeper.ghost_name ≡ initial.keeper.ghost_name

module _ {K : Type 0} (contents synced : K → Option (List ℕ))
    (fault : K → Option KeptFileFault) where
  -- the file was kept for what one's object was and another's is
  abbrev pub HasKept : KeptObject K → KeptObject K → Type 0
  HasKept initial now =
      KeepsAll initial.object.now now.object.now
      (file_of contents synced fault initial.keeper.now)
      (file_of contents synced fault now.keeper.now)

  -- the file was kept until the object was `before`, and failed then
  abbrev pub HasLost : KeptObject K → ObjectState → KeptObject K → KeptFileFault → Type 0
  HasLost initial before now why =
      KeepsUntil initial.object.now before now.object.now
      (file_of contents synced fault initial.keeper.now)
      (file_of contents synced fault now.keeper.now) why
