use Rattle.std.proofs.Common.{◌≡◌, ◌++◌, take, string_bytes}
use Rattle.std.specs.List.{flat_map}
use Rattle.clap.specs.Words.{rule_of}
use Rattle.osn_invocation.specs.Completions.{row_of}
use Rattle.osn_invocation.proofs.rows.push_rows.Given as goal

-- the rows so far
abbrev pub invariant-loop-arg : goal.invariant-loop-arg
invariant-loop-arg l =
    string_bytes l.out ≡ string_bytes l.initial.out
    ++ flat_map (λ arg. row_of l.command (rule_of arg)) (take l.arg-index l.arguments)
