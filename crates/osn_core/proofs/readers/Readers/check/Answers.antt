use Rattle.std.proofs.Common.{◌∙◌}
use Rattle.osn_core.specs.Control.{check}
use Rattle.osn_core.proofs.ReaderMoves.{out_found, after_found}
use Rattle.osn_core.proofs.readers.Readers.check.Goals as goal

pub returns-in-Some-clause-out : goal.returns-in-Some-clause-out
returns-in-Some-clause-out c =
    c.check.ensures.out
    ∙ out_found (check c.args.live c.args.edition) c.self.view_is c.in-Some.ensures
    c.index_mut.ensures.value

pub returns-in-Some-clause-after : goal.returns-in-Some-clause-after
returns-in-Some-clause-after c = after_found (check c.args.live c.args.edition) c.self.view_is
    c.in-Some.ensures c.index_mut.ensures.value c.check.ensures.after
