use Rattle.std.proofs.Common.{◌≡◌, ◌∙◌, ap, rules, sym, to_z, of_z, w64}
use Rattle.osn_days.specs.Rules.{newest_rules}
use Rattle.osn_register_text.specs.SourceWords as spec
use Rattle.osn_register_text.proofs.source_words.source_before.Goals as goal

pub returns-in-AlterChange : goal.returns-in-AlterChange
returns-in-AlterChange c =
    let territories = c.args.register.now.territories in
    let number = c.in-AlterChange.day in
    let day : to_z w64 (of_z w64 number) ≡ number = search rules in
    c.source_on.ensures
    ∙ ap (λ n. spec.source_on newest_rules territories c.as_str.result.now n) day
    ∙ ap (λ code. spec.source_on newest_rules territories code number) c.as_str.ensures.value
    ∙ ap (spec.source_before newest_rules territories) (sym c.in-AlterChange.is)
