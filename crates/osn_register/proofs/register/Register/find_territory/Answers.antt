use Rattle.std.proofs.Common.{ℕ, List, Some, ap, sym, ◌∙◌, is_some, option_map, string_bytes}
use Rattle.osn_territory.specs.Territory.{TerritoryModel}
use Rattle.osn_register.specs.Plain.{entry_of}
use Rattle.osn_register.specs.NamedTerritories.{named_of}
use Rattle.osn_register.proofs.EntryFacts.{entry_of-map}
use Rattle.osn_register.proofs.NamedFacts.{named_of-map}
use Rattle.osn_register.proofs.register.Register.find_territory.Goals as goal
use Rattle.osn_register.specs.Inside.{sources_in}

pub returns-in-Some-clause-value : goal.returns-in-Some-clause-value
returns-in-Some-clause-value c =
    let code = c.args.code.now in
    let entry = c.in-Some.entry.now in
    sym (ap (λ r. named_of code r.territories) c.self.view_is)
    ∙ named_of-map string_bytes (λ v. v.name) (λ v. v.territory)
    (λ v. sources_in v.sources) code c.self.inside.territories.entries
    ∙ ap (option_map {U = List ℕ × TerritoryModel} (λ v. (v.name, v.territory)))
    (sym c.in-Some.ensures.value)
    ∙ ap (λ (name : List ℕ).
    let both : List ℕ × TerritoryModel = (name, entry.territory) in Some both)
    (sym c.as_str.ensures.value)

pub returns-in-Some-clause-known : goal.returns-in-Some-clause-known
returns-in-Some-clause-known c =
    ap is_some c.in-Some.ensures.value
    ∙ sym (entry_of-map string_bytes (λ v. v.name) (λ v. v.territory)
    (λ v. sources_in v.sources) c.args.code.now
    c.self.inside.territories.entries)
    ∙ ap (λ r. is_some (entry_of c.args.code.now r.territories)) c.self.view_is

pub returns-in-None-clause-known : goal.returns-in-None-clause-known
returns-in-None-clause-known c =
    ap is_some c.in-None.ensures.value
    ∙ sym (entry_of-map string_bytes (λ v. v.name) (λ v. v.territory)
    (λ v. sources_in v.sources) c.args.code.now
    c.self.inside.territories.entries)
    ∙ ap (λ r. is_some (entry_of c.args.code.now r.territories)) c.self.view_is
