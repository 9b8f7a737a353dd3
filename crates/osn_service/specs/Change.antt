-- What a change of an object makes of it, by which refusal it is not made, and its outcome.
use Rattle.std.specs.Prelude.{ℕ, ◌+◌, length, Option}
use Rattle.osn_days.specs.Rules.{newest_rules}
use Rattle.osn_register.specs.declared.refusal.Refusal.{Refusal}
use Rattle.osn_core.specs.Sequential.{ObjectState, stage_refusal, publish_refusal, with_pending}
use Rattle.osn_core.specs.Sequential.{with_edition, state_unless}
use Rattle.osn_service.specs.declared.outcome.Outcome.{Outcome}
use Rattle.osn_service.specs.declared.outcome.Outcome.TheVariants.{Staged, Published}
use Rattle.osn_service.specs.Session.{unless_refused}
use Rattle.osn_service.specs.declared.store.Change.{Change}
use Rattle.osn_service.specs.declared.store.Change.TheVariants.{Stage, Publish}

-- the first refusal of a change
abbrev pub change_refusal : ObjectState → Change → Option Refusal
change_refusal s (Stage edit) = stage_refusal newest_rules s edit
change_refusal s Publish = publish_refusal s

-- the object with a change
abbrev pub changed : ObjectState → Change → ObjectState
changed s (Stage edit) = with_pending s edit
changed s Publish = with_edition s

-- how many edits are pending after a change, or which edition it made
abbrev pub number_after : ObjectState → Change → ℕ
number_after s (Stage edit) = length s.pending + 1
number_after s Publish = length s.batches + 1

-- the outcome of a change that was made, by that number
abbrev pub outcome : Change → ℕ → Outcome
outcome (Stage edit) n = Staged n
outcome Publish n = Published n

-- the outcome of a change, and what it leaves
abbrev pub change_outcome : ObjectState → Change → Outcome
change_outcome s change =
    unless_refused (change_refusal s change) (outcome change (number_after s change))

abbrev pub change_after : ObjectState → Change → ObjectState
change_after s change = state_unless (change_refusal s change) (changed s change) s
