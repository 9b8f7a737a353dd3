use Rattle.std.proofs.Common.{refl}
use Rattle.std.proofs.lemmas.Result.{IfOk-weaker}
use Rattle.osn_serve_commands.specs.Mode.{mode_of_options}
use Rattle.osn_serve_commands.proofs.ModeLemmas.{misused, run_as, open_failed_as}
use Rattle.osn_serve_commands.proofs.in_folder.serve_in_folder.Goals as goal

pub returns-in-Load-clause-ok : goal.returns-in-Load-clause-ok
returns-in-Load-clause-ok g c =
    IfOk-weaker c.serve.result _ _
    (λ status h. run_as c.args.limits _ _ _ _ _ _ _ status c.in-Ok.mode _ c.in-Ok.ensures.ok
    c.in-Load.is h)
    c.serve.ensures.ok

pub returns-in-Load-clause-err : goal.returns-in-Load-clause-err
returns-in-Load-clause-err g c =
    open_failed_as c.serve.result (λ failure. failure.path.now) (λ failure. failure.fault)
    (mode_of_options c.args.options) c.in-Ok.mode _ _ _ _ c.in-Ok.ensures.ok c.in-Load.is
    c.serve.ensures.err

pub returns-in-Keep-clause-ok : goal.returns-in-Keep-clause-ok
returns-in-Keep-clause-ok g c =
    run_as c.args.limits _ _ _ _ _ _ _ c.keep.result c.in-Ok.mode _ c.in-Ok.ensures.ok c.in-Keep.is
    c.keep.ensures

pub returns-in-Upgrade-clause-ok : goal.returns-in-Upgrade-clause-ok
returns-in-Upgrade-clause-ok g c =
    run_as c.args.limits _ _ _ _ _ _ _ c.upgrade_and_keep.result c.in-Ok.mode _ c.in-Ok.ensures.ok
    c.in-Upgrade.is c.upgrade_and_keep.ensures

pub returns-in-Follow-clause-ok : goal.returns-in-Follow-clause-ok
returns-in-Follow-clause-ok g c =
    run_as c.args.limits _ _ _ _ _ _ _ c.follow_file.result c.in-Ok.mode _ c.in-Ok.ensures.ok
    c.in-Follow.is c.follow_file.ensures

pub returns-in-Err-clause-ok : goal.returns-in-Err-clause-ok
returns-in-Err-clause-ok g c =
    misused c.args.limits _ _ _ _ _ _ _ c.report.result c.in-Err.fault c.in-Err.ensures.err
    (refl, (refl, c.report.ensures))
