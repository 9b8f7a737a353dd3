-- The outcome of a change that was made.
use Rattle.std.proofs.Common.{◌≡◌, ℕ, Bool, true, false, refl}
use Rattle.osn_service.specs.Change.{outcome}
use Rattle.osn_service.specs.Outcome.{explained_if, is_refused}
use Rattle.osn_service.specs.declared.store.Change.{Change}
use Rattle.osn_service.specs.declared.store.Change.TheVariants.{Stage, Publish}

-- the outcome of a change that was made is not a refusal, with a message or without
pub made_is_not_refused : (explains : Bool) (change : Change) (n : ℕ)
    → is_refused (explained_if explains (outcome change n)) ≡ false
made_is_not_refused true (Stage edit) n = refl
made_is_not_refused true Publish n = refl
made_is_not_refused false (Stage edit) n = refl
made_is_not_refused false Publish n = refl
