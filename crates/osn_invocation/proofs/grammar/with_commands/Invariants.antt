use Rattle.std.proofs.Common.{map, take}
use Rattle.osn_invocation.specs.Grammar.{HasCommands, command_of_row}
use Rattle.osn_invocation.proofs.grammar.with_commands.Given as goal

abbrev pub invariant-loop-row : goal.invariant-loop-row
invariant-loop-row l =
    HasCommands l.fn.program (map command_of_row (take l.row-index l.rows)) l.program
