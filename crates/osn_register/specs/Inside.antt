-- How the register keeps its territories: by code, in the order in which they were added.
use Rattle.std.specs.Prelude.{ℕ, List, map, string_bytes}
use Rattle.osn_territory.specs.Territory.{TerritoryModel}
use Rattle.osn_register.specs.declared.register.Register.TheInside.{Inside}
use Rattle.osn_register.specs.declared.sources.Sources.{Sources}
use Rattle.osn_register.specs.Sources.{SourcesModel}
use Rattle.osn_register.specs.Plain.{EntryModel, RegisterModel}

-- the territory that is kept under a key
abbrev pub entry_in : {K V : Type 0} → (K → List ℕ) → (V → List ℕ) → (V → TerritoryModel)
    → (V → SourcesModel) → K × V → EntryModel
entry_in text name territory sources e = record {
  code = text e.0;
  name = name e.1;
  territory = territory e.1;
  sources = sources e.1;
}

-- the sources that are kept in two lists
abbrev pub sources_in : Sources → SourcesModel
sources_in s = record { periods = s.periods.items; easters = s.easters.items }

abbrev pub register_in : Inside → RegisterModel
register_in r = record {
  limits = r.limits;
  territories = map (entry_in string_bytes (λ v. v.name) (λ v. v.territory)
      (λ v. sources_in v.sources)) r.territories.entries;
}
