use Rattle.std.proofs.Common.{◌≡◌, ◌++◌, map, string_bytes}
use Rattle.osn_register.specs.Answer as spec
use Rattle.osn_register.specs.Inside.{entry_in, sources_in}
use Rattle.osn_register.proofs.register.Register.list_territories.Given as goal

-- the territories that are listed and those that are left are all
abbrev pub invariant-loop-code : goal.invariant-loop-code
invariant-loop-code l =
    l.listed.items ++ map spec.land_of (map (entry_in string_bytes (λ v. v.name) (λ v. v.territory)
    (λ v. sources_in v.sources))
    l.code-iterator)
    ≡ map spec.land_of (map (entry_in string_bytes (λ v. v.name) (λ v. v.territory)
    (λ v. sources_in v.sources))
    l.self-inside.territories.entries)
