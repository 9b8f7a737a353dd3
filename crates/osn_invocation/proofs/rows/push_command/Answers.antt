use Rattle.std.proofs.lemmas.Result.{on_ok_weaker}
use Rattle.osn_invocation.proofs.RowLemmas.{command_written}
use Rattle.osn_invocation.proofs.rows.push_command.Goals as goal

pub returns : goal.returns
returns c =
    on_ok_weaker c.push_rows.result
    (command_written _ _ _ c.args.command.now c.get_name-name.result c.get_arguments.result.now
    c.get_name-name.ensures c.get_arguments.ensures c.in_ok-push_name.ensures)
    c.push_rows.ensures
