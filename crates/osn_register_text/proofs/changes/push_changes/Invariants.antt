use Rattle.std.proofs.Common.{◌≡◌, ◌++◌, drop, string_bytes}
use Rattle.osn_register.specs.Plain.{sources_of}
use Rattle.osn_register_text.specs.WrittenText as spec
use Rattle.osn_register_text.proofs.changes.push_changes.Given as goal

-- the changes that are left are still to come
abbrev pub invariant-loop-period : goal.invariant-loop-period
invariant-loop-period l =
    string_bytes l.initial.out
    ++ spec.changes_text l.code (sources_of l.code l.register.territories) l.fn.opening l.periods
    ≡ string_bytes l.out
    ++ spec.changes_text l.code (sources_of l.code l.register.territories) l.before
    (drop l.period-index l.periods)
