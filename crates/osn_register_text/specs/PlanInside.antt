-- What the crate reads of the two registers of a plan.
use Rattle.osn_register_text.specs.declared.pair.TerritoryPair.{TerritoryPair}
use Rattle.osn_register_text.specs.CitedSources.{BothSources, both_sources}

-- the sources of the territory in both
abbrev pub sources_at : TerritoryPair → BothSources
sources_at pair = both_sources pair.code.now pair.register.now.territories
    pair.target.now.territories
