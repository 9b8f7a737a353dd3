use Rattle.std.proofs.Common.{take}
use Rattle.osn_invocation.specs.Grammar.{HasArguments}
use Rattle.osn_invocation.proofs.grammar.with_arguments.Given as goal

abbrev pub invariant-loop-argument : goal.invariant-loop-argument
invariant-loop-argument l =
    HasArguments l.fn.command (take l.argument-index l.arguments) l.command
