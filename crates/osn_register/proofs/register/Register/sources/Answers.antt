use Rattle.std.proofs.Common.{ap, sym, ◌∙◌, option_map, string_bytes}
use Rattle.osn_register.specs.Inside.{sources_in}
use Rattle.osn_register.specs.Plain.{sources_of}
use Rattle.osn_register.proofs.EntryFacts.{sources_of-map}
use Rattle.osn_register.proofs.register.Register.sources.Goals as goal

pub returns-in-Some : goal.returns-in-Some
returns-in-Some c =
    ap (option_map (λ v. sources_in v.sources)) c.in-Some.ensures.value
    ∙ sym (sources_of-map string_bytes (λ v. v.name) (λ v. v.territory)
    (λ v. sources_in v.sources) c.args.code.now c.self.inside.territories.entries)
    ∙ ap (λ r. sources_of c.args.code.now r.territories) c.self.view_is

pub returns-in-None : goal.returns-in-None
returns-in-None c =
    ap (option_map (λ v. sources_in v.sources)) c.in-None.ensures.value
    ∙ sym (sources_of-map string_bytes (λ v. v.name) (λ v. v.territory)
    (λ v. sources_in v.sources) c.args.code.now c.self.inside.territories.entries)
    ∙ ap (λ r. sources_of c.args.code.now r.territories) c.self.view_is
