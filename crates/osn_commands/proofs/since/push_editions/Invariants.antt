use Rattle.std.proofs.Common.{◌≡◌, ◌++◌, drop, string_bytes}
use Rattle.osn_commands.specs.Since as spec
use Rattle.osn_commands.proofs.since.push_editions.Given as goal

-- the editions that are left are still to come
abbrev pub invariant-loop-index : goal.invariant-loop-index
invariant-loop-index l =
    string_bytes l.initial.out
    ++ spec.editions_lines l.register.territories l.fn.edition (drop l.fn.edition l.batches)
    ≡ string_bytes l.out
    ++ spec.editions_lines l.register.territories l.index (drop l.index l.batches)
