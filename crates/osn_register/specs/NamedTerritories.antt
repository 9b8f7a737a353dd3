-- The territory of a code with its name: this project's profile.
use Rattle.std.specs.Prelude.{ℕ, List, Option, option_map}
use Rattle.osn_territory.specs.Territory.{TerritoryModel}
use Rattle.osn_register.specs.Plain.{EntryModel, entry_of}

-- the name and the territory of a code
abbrev pub named_of : List ℕ → List EntryModel → Option (List ℕ × TerritoryModel)
named_of code territories =
    option_map {U = List ℕ × TerritoryModel} (λ l. (l.name, l.territory))
    (entry_of code territories)

-- the code, the name and the territory of a place
abbrev pub listing_of : EntryModel → List ℕ × List ℕ × TerritoryModel
listing_of l = (l.code, l.name, l.territory)
