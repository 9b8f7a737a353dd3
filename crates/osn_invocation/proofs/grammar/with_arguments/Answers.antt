use Rattle.std.proofs.Common.{◌<◌, length, arith}
use Rattle.osn_invocation.proofs.GrammarLemmas.{next_argument}
use Rattle.osn_invocation.proofs.grammar.with_arguments.Goals as goal

pub loop-argument-preserved : goal.loop-argument-preserved
loop-argument-preserved c =
    let below : c.loop-argument.argument-index < length c.args.arguments.now = omega arith in
    next_argument _ _ _ _ _ _ _ below c.in_ok-command.ensures c.argument_of.ensures
    c.loop-argument.invariant
