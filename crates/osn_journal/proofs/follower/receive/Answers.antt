use Rattle.std.proofs.Common.{IfErr, subst, sym}
use Rattle.std.proofs.lemmas.Result.{err_from_is_err_and}
use Rattle.osn_journal.specs.declared.follower_fault.FollowerFault.{FollowerFault}
use Rattle.osn_journal.specs.RoundInside.{ComesNot}
use Rattle.osn_journal.proofs.AllRoundsLemmas.{look_failed-after}
use Rattle.osn_journal.proofs.follower.receive.Goals as goal

pub returns-in_err-look-clause-err : goal.returns-in_err-look-clause-err
returns-in_err-look-clause-err g c =
    let err = err_from_is_err_and c.from_residual-in_err-look.result
    c.from_residual-in_err-look.ensures.1 in
    let not_come = ComesNot c.args.follower.now (g.A.Arrivals.arrived c.args.arrivals.now)
    (g.A.Arrivals.arrived c.look.new.arrivals) in
    subst (λ r. IfErr r not_come) (sym err.1)
    (subst (λ (why : FollowerFault). not_come why) (sym err.2)
    (look_failed-after c.args.follower.now c.read_lines.new.front _ _ _ c.in_ok-lines.lines
    c.in_err-look.field-0.0 c.in_ok-lines.ensures.ok c.in_err-look.ensures.err))
