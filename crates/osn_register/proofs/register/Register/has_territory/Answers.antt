use Rattle.std.proofs.Common.{ap, sym, ◌∙◌, is_some, string_bytes}
use Rattle.osn_register.specs.Plain.{entry_of}
use Rattle.osn_register.proofs.EntryFacts.{entry_of-map}
use Rattle.osn_register.proofs.register.Register.has_territory.Goals as goal
use Rattle.osn_register.specs.Inside.{sources_in}

pub returns : goal.returns
returns c =
    c.contains_key.ensures
    ∙ sym (entry_of-map string_bytes (λ v. v.name) (λ v. v.territory)
    (λ v. sources_in v.sources) c.args.code.now
    c.self.inside.territories.entries)
    ∙ ap (λ r. is_some (entry_of c.args.code.now r.territories)) c.self.view_is
