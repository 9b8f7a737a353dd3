-- Two registers have the same entry for a territory.
use Rattle.std.specs.Prelude.{ℕ, ◌≡◌, true, Option, Some, None, is_some}
use Rattle.osn_territory.specs.Changes.{starts_on}
use Rattle.osn_territory.specs.Exceptions.{exception_of}
use Rattle.osn_register.specs.Plain.{EntryModel}
use Rattle.osn_register.specs.Sources.{source_of}

-- two entries of a register are the same: their names, their territories, the source of each period
-- and the source of each listed Easter
pub record IsSameEntry (a b : EntryModel) : Type 0 where
  pub name : a.name ≡ b.name
  pub territory : a.territory ≡ b.territory
  pub periods : (day : ℕ) → starts_on a.territory day ≡ true
      → source_of day a.sources.periods ≡ source_of day b.sources.periods
  pub easters : (year : ℕ) → is_some (exception_of a.territory year) ≡ true
      → source_of year a.sources.easters ≡ source_of year b.sources.easters

-- neither entry is there, or both are there and are the same
abbrev pub AreSameEntry : Option EntryModel → Option EntryModel → Type 0
AreSameEntry None None = Unit {0}
AreSameEntry (Some a) (Some b) = IsSameEntry a b
AreSameEntry None (Some b) = ⊥
AreSameEntry (Some a) None = ⊥
