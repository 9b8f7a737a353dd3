use Rattle.std.proofs.Common.{◌≡◌, ◌++◌, map, string_bytes}
use Rattle.osn_register.specs.Inside.{entry_in, sources_in}
use Rattle.osn_register.proofs.register.Register.copy.Given as goal

-- the territories that are copied and those that are left are all
abbrev pub invariant-loop-code : goal.invariant-loop-code
invariant-loop-code l =
    (l.copied.limits ≡ l.self.limits)
    × (l.copied.territories ++ map (entry_in string_bytes (λ v. v.name) (λ v. v.territory)
    (λ v. sources_in v.sources)) l.code-iterator
    ≡ l.self.territories)
