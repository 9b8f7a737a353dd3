use Rattle.osn_territory.proofs.territory.Territory.alter_change.Goals as goal

pub returns-clause-ok : goal.returns-clause-ok
returns-clause-ok c = c.set_regime.ensures
