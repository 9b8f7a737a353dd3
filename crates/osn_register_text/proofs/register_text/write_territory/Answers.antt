use Rattle.std.proofs.Common.{◌++◌, sym, ap, subst, ◌∙◌}
use Rattle.osn_days.specs.Rules.{newest_rules}
use Rattle.osn_register.specs.Plain.{entry_of}
use Rattle.osn_register_text.specs.Says.{SaysTerritory}
use Rattle.osn_register_text.specs.WrittenText.{edition_line, if_there, territories_text}
use Rattle.osn_register_text.specs.WrittenText.{register_text}
use Rattle.osn_register_text.proofs.ReadBack.{territory_says}
use Rattle.osn_register_text.proofs.register_text.write_territory.Goals as goal

pub returns-clause-reads_back : goal.returns-clause-reads_back
unfolding register_text
returns-clause-reads_back c =
    let code = c.args.code.now in
    let r = c.args.register.now in
    let n = c.args.edition in
    let rest = territories_text newest_rules (if_there (entry_of code r.territories)) in
    subst (λ text. SaysTerritory r text n code)
    (sym (c.in_ok-push_of_code.ensures
    ∙ ap (λ text. text ++ rest) (c.in_ok-push_edition.ensures
    ∙ ap (λ text. text ++ edition_line n) c.in_ok-text.ensures.bytes)))
    (territory_says n code r)
