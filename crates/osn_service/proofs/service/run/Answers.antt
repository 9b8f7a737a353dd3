use Rattle.osn_service.proofs.TakingLemmas.{HasTaken-few}
use Rattle.osn_service.proofs.service.run.Goals as goal

pub write_rest-requires : goal.write_rest-requires
write_rest-requires g c =
    HasTaken-few _ _ _ _ _ c.take_all-outcome.result c.take_all-outcome.ensures.takes

pub returns-clause-serves : goal.returns-clause-serves
returns-clause-serves g c =
    c.write_rest.ensures.serves _ _ _ _ c.take_all-outcome.ensures.takes
