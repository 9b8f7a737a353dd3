use Rattle.osn_serve_commands.proofs.ResultLemmas.{if_err_made}
use Rattle.osn_serve_commands.proofs.TargetLemmas.{not_loaded}
use Rattle.osn_serve_commands.proofs.target.target_of.Goals as goal

pub returns-in_err-_journal-clause-err : goal.returns-in_err-_journal-clause-err
returns-in_err-_journal-clause-err c =
    if_err_made c.from_residual.result c.from_residual.ensures.1
    (λ e is. not_loaded c.args.limits c.args.content.now _ _ _ _ e is c.new.ensures
    c.in_err-_journal.ensures.file.fault)
