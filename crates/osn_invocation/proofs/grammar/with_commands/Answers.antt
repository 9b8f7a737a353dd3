use Rattle.std.proofs.Common.{◌<◌, length, arith}
use Rattle.osn_invocation.proofs.GrammarLemmas.{next_command}
use Rattle.osn_invocation.proofs.grammar.with_commands.Goals as goal

pub loop-row-preserved : goal.loop-row-preserved
loop-row-preserved c =
    let below : c.loop-row.row-index < length c.args.rows.now = omega arith in
    next_command _ _ _ _ _ _ _ below c.in_ok-program.ensures c.in_ok-command_of.ensures
    c.loop-row.invariant
