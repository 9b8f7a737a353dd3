use Rattle.std.proofs.Common.{◌∙◌}
use Rattle.osn_core.specs.Control.{leave}
use Rattle.osn_core.proofs.ReaderMoves.{out_found, after_found}
use Rattle.osn_core.proofs.readers.Readers.leave.Goals as goal

pub returns-in-Some-clause-out : goal.returns-in-Some-clause-out
returns-in-Some-clause-out c =
    c.leave.ensures.out
    ∙ out_found leave c.self.view_is c.in-Some.ensures
    c.index_mut.ensures.value

pub returns-in-Some-clause-after : goal.returns-in-Some-clause-after
returns-in-Some-clause-after c = after_found leave c.self.view_is
    c.in-Some.ensures c.index_mut.ensures.value c.leave.ensures.after
