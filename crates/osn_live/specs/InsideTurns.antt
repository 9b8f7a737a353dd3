-- The calls of a gate for a list.
use Rattle.std.specs.Prelude.{◌≡◌, ℕ}
use Rattle.osn_live.specs.Desk.{HearsOf}
use Rattle.osn_live.specs.declared.turns.Turns.{Turns}

-- the calls of a gate for the first items of a list, as many as this number, each before the item
-- and then after it. The list is that of one editor or reader
pub record HasCalled {G : Type 0} (let_pass saw_end : G → ℕ → ℕ → Type 0) (old new : Turns G)
    (items : ℕ) : Type 0 where
  pub gate : new.gate ≡ old.gate
  pub who : new.who ≡ old.who
  pub begun : new.begun ≡ items
  pub ended : new.ended ≡ items
  pub hears : HearsOf let_pass saw_end old.gate.now old.who items
