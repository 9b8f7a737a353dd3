-- The history as the proofs keep it: a book whose log is the published batches, and whose first
-- word is their number. Its second word is left at 0.
use Rattle.std.specs.Prelude.{ℕ, ◌≡◌, true, List, [], ◌∷◌, ◌++◌, length}
use Rattle.logbook.specs.Pages.{Cell, Step, View, Book, Named}
use Rattle.osn_register.specs.declared.edit.Edit.{Edit}

pub record HoldsLength (cells : List Cell) (log : List (List Edit)) : Type 0 where
  pub words : cells ≡ (length log, true) ∷ (0, true) ∷ []

abbrev pub head_of : Book → Named
head_of b = record { tracked = true; key = 0; book = b }

-- if the number found is the one expected, the batch was added after all that had been seen
abbrev pub Adds : Step (List Edit) → View (List Edit) ℕ → ℕ → View (List Edit) ℕ → Type 0
Adds s v found w = found ≡ s.old → w.0 ≡ v.0 ++ s.ask ∷ []
