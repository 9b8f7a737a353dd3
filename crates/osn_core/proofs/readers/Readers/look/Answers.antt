use Rattle.std.proofs.Common.{◌∙◌}
use Rattle.std.proofs.lemmas.Result.{IfOk-weaker, on_ok_weaker}
use Rattle.osn_core.specs.Control.{look}
use Rattle.osn_core.proofs.ReaderMoves.{out_found, after_found}
use Rattle.osn_core.proofs.readers.Readers.look.Goals as goal

pub returns-in-Some-clause-out : goal.returns-in-Some-clause-out
returns-in-Some-clause-out c =
    let looked = look c.args.live c.args.query.now in
    IfOk-weaker c.look.result _ _ (λ out is. is ∙ out_found looked c.self.view_is c.in-Some.ensures
    c.index_mut.ensures.value) c.look.ensures.out

pub returns-in-Some-clause-ok : goal.returns-in-Some-clause-ok
returns-in-Some-clause-ok c =
    let looked = look c.args.live c.args.query.now in
    on_ok_weaker c.look.result (λ is. after_found looked c.self.view_is c.in-Some.ensures
    c.index_mut.ensures.value is) c.look.ensures.ok
