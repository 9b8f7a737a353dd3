use Rattle.std.proofs.Common.{◌∙◌}
use Rattle.osn_core.specs.Control.{pin}
use Rattle.osn_core.proofs.ReaderMoves.{out_found, after_found}
use Rattle.osn_core.proofs.readers.Readers.pin.Goals as goal

pub returns-in-Some-clause-out : goal.returns-in-Some-clause-out
returns-in-Some-clause-out c =
    c.pin.ensures.out
    ∙ out_found pin c.self.view_is c.in-Some.ensures
    c.index_mut.ensures.value

pub returns-in-Some-clause-after : goal.returns-in-Some-clause-after
returns-in-Some-clause-after c = after_found pin c.self.view_is
    c.in-Some.ensures c.index_mut.ensures.value c.pin.ensures.after
