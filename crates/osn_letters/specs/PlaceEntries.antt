-- The entries of a table of places: what a place is called, and the code of its territory.
use Rattle.std.specs.Prelude.{ℕ, List, find, Option, option_map}
use Rattle.std.specs.Str.{bytes_eq}

pub record PlaceEntry : Type 0 where
  pub place : List ℕ
  pub code : List ℕ

-- the code of a place, if the place is listed
abbrev pub code_of : List ℕ → List PlaceEntry → Option (List ℕ)
code_of place entries = option_map (λ e. e.code) (find (λ e. bytes_eq place e.place) entries)

-- the entry that is kept under a key
abbrev pub entry_in : {K V : Type 0} → (K → List ℕ) → (V → List ℕ) → K × V → PlaceEntry
entry_in place code e = record { place = place e.0; code = code e.1 }
