use Rattle.std.proofs.Common.{◌≡◌, ◌++◌, take, string_bytes}
use Rattle.std.specs.List.{flat_map}
use Rattle.clap.specs.Simple.{shape_of}
use Rattle.osn_invocation.specs.Completions.{command_rows}
use Rattle.osn_invocation.proofs.rows.push_commands.Given as goal

-- the rows so far
abbrev pub invariant-loop-command : goal.invariant-loop-command
invariant-loop-command l =
    string_bytes l.out ≡ string_bytes l.initial.out
    ++ flat_map (λ command. command_rows (shape_of command)) (take l.command-index l.commands)
