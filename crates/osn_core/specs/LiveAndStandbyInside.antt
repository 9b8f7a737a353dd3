-- How a draft and another register keep the sequential object's state. One is the live register,
-- and the other a standby that may still lack the end of the last batch.
use Rattle.std.specs.Prelude.{◌≡◌, ℕ, ◌≤◌, ◌⊎◌, List, [], ◌++◌, length}
use Rattle.osn_days.specs.Rules.{Rules, newest_rules}
use Rattle.osn_register.specs.declared.limits.Limits.{Limits}
use Rattle.osn_register.specs.declared.edit.Edit.{Edit}
use Rattle.osn_register.specs.Plain.{EntryModel, RegisterModel, after_edits}
use Rattle.osn_core.specs.declared.live_and_standby.LiveAndStandby.TheInside.{Inside}
use Rattle.osn_core.specs.Sequential.{ObjectState, empty_object, joined, IsSound, last_batch}
use Rattle.osn_core.specs.Sequential.{without_last}
use Rattle.osn_core.specs.Draft.{DraftState, object_of, IsDraftOf}

-- the sequential object, and how many edits of its last batch the standby lacks
pub record CopiesState : Type 0 where
  pub object : ObjectState
  pub lag : ℕ

abbrev pub first_copies : Limits → CopiesState
first_copies limits = record { object = empty_object limits; lag = 0 }

-- the territories of all edits, published and pending, except the last ones
abbrev pub lagging_territories : Rules → CopiesState → List EntryModel
lagging_territories p c = after_edits p c.object.limits []
    (without_last c.lag (joined c.object.batches ++ c.object.pending))

abbrev pub copies_in : Inside → CopiesState
copies_in c = record { object = object_of c.draft c.batches.items; lag = c.lag }

-- the draft is that of the object. The other register has the batches except for the edits that the
-- standby lacks, and if any edit is pending, the standby lacks no edit
pub record AreInStep (d : DraftState) (batches : List (List Edit)) (lag : ℕ) (other : RegisterModel)
    : Type 0 where
  pub draft : IsDraftOf d batches
  pub other_is : other ≡
      record {
        limits = d.register.limits;
        territories = after_edits newest_rules d.register.limits []
            (without_last lag (joined batches));
      }
  pub lag_is_of_last : lag ≤ length (last_batch batches)
  pub caught_up : (d.pending ≡ []) ⊎ (lag ≡ 0)
  pub sound : IsSound newest_rules (object_of d batches)

abbrev pub AreCopiesInStep : Inside → Type 0
AreCopiesInStep c = AreInStep c.draft c.batches.items c.lag c.other
