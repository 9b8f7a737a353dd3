-- A journal stays good when limits are raised: lines that limits load are loaded under greater ones
-- too, as the same object. This project's profile.
use Rattle.std.specs.Prelude.{◌≡◌, ◌≤◌, ℕ, List, [], ◌++◌, take, Ok}
use Rattle.osn_days.specs.Rules.{newest_rules}
use Rattle.osn_register.specs.declared.edit.Edit.{Edit}
use Rattle.osn_register.specs.declared.limits.Limits.{Limits}
use Rattle.osn_register.specs.Plain.{after_edits}
use Rattle.osn_core.specs.Sequential.{ObjectState, joined}
use Rattle.osn_files.specs.Journal.{load}

-- the second limits are greater than the first, or the same, in each of the five numbers
pub record AreGreater (limits greater : Limits) : Type 0 where
  pub lands : limits.lands ≤ greater.lands
  pub changes : limits.changes ≤ greater.changes
  pub exceptions : limits.exceptions ≤ greater.exceptions
  pub edits : limits.edits ≤ greater.edits
  pub editions : limits.editions ≤ greater.editions

-- an object under other limits, with the same batches and the same pending edits
abbrev pub with_limits : ObjectState → Limits → ObjectState
with_limits s limits = record s { limits = limits }

-- edits in turn make the same territories under both limits
abbrev pub MakeSameTerritories : Limits → Limits → List Edit → Type 0
MakeSameTerritories limits greater es =
    after_edits newest_rules limits [] es ≡ after_edits newest_rules greater [] es

-- Lines that are loaded as an object under limits are loaded under greater ones as the same object
-- except its limits. Its batches and its pending edits are the same. Each of its editions, which is
-- that of the first batches, has the same territories under both limits. So have all its edits, the
-- pending ones included.
unfoldable pub LoadsUnderGreater : Limits → List (List ℕ) → Type 0
LoadsUnderGreater limits lines =
    (greater : Limits) → AreGreater limits greater → (object : ObjectState)
    → load newest_rules limits lines ≡ Ok object
    → (load newest_rules greater lines ≡ Ok (with_limits object greater))
    × ((edition : ℕ) → MakeSameTerritories limits greater (joined (take edition object.batches)))
    × MakeSameTerritories limits greater (joined object.batches ++ object.pending)
