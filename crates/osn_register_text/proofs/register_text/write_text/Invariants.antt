use Rattle.std.proofs.Common.{◌≡◌, ◌++◌, drop, string_bytes}
use Rattle.osn_days.specs.Rules.{newest_rules}
use Rattle.osn_register_text.specs.WrittenText as spec
use Rattle.osn_register_text.proofs.register_text.write_text.Given as goal

-- the territories that are left are still to come
abbrev pub invariant-each : goal.invariant-each
invariant-each l =
    spec.register_text newest_rules l.fn.edition l.register.territories
    ≡ string_bytes l.text
    ++ spec.territories_text newest_rules (drop l.index l.register.territories)
