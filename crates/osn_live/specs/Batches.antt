-- Beginnings of a list of batches.
use Rattle.std.specs.Prelude.{◌≡◌, ◌⊎◌, List, ◌++◌}
use Rattle.osn_register.specs.declared.edit.Edit.{Edit}

-- the batches ys begin with xs
pub record Begins (xs ys : List (List Edit)) : Type 0 where
  pub rest : List (List Edit)
  pub is : xs ++ rest ≡ ys

-- one of xs and ys begins the other, and zs is the longer of the two
abbrev pub IsLater : List (List Edit) → List (List Edit) → List (List Edit) → Type 0
IsLater xs ys zs = (Begins xs ys × (zs ≡ ys)) ⊎ (Begins ys xs × (zs ≡ xs))
