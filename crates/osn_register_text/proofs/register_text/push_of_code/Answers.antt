use Rattle.std.proofs.Common.{◌≡◌, ◌++◌, string_bytes, sym, ap, subst, ◌∙◌, append-nil}
use Rattle.std.specs.Result.{OnOk}
use Rattle.osn_register_text.proofs.TextSteps.{text_found, text_of_none}
use Rattle.osn_register_text.proofs.register_text.push_of_code.Goals as goal

pub returns-in-Some : goal.returns-in-Some
returns-in-Some c =
    subst (λ text. OnOk c.push_next_territory.result
    (string_bytes c.push_next_territory.new.out ≡ string_bytes c.args.out.now ++ text))
    (text_found c.args.code.now c.in-Some.name.now c.in-Some.territory.now
    c.args.register.now.territories c.in-Some.ensures.value)
    c.push_next_territory.ensures

pub returns-in-None : goal.returns-in-None
returns-in-None c =
    let out = string_bytes c.args.out.now in
    sym (ap (λ text. out ++ text)
    (text_of_none c.args.code.now c.args.register.now.territories c.in-None.ensures.known)
    ∙ append-nil out)
