use Rattle.std.proofs.Common.{ap, sym, true≢false, ◌∙◌}
use Rattle.std.proofs.lemmas.Result.{on_ok_weaker}
use Rattle.std.specs.Str.{str_eq_ignore_ascii_case}
use Rattle.osn_letters.specs.TerritoryNames.{with_territory}
use Rattle.osn_letters.proofs.NameFacts.{added_both}
use Rattle.osn_letters.proofs.territory_finder.add_territory.Goals as goal

pub returns : goal.returns
returns c =
    let name = c.args.name.now in
    let t = c.args.territory.now in
    on_ok_weaker c.add_name-2.result
    (λ added text. added text
    ∙ ap (λ found. with_territory (str_eq_ignore_ascii_case name text) found t)
    (c.in_ok-add_name.ensures text)
    ∙ added_both c.args.code.now name text _ t
    (λ same. true≢false (sym (c.eq_ignore_ascii_case.ensures.test.1 same)
    ∙ c.if-eq_ignore_ascii_case.false)))
    c.add_name-2.ensures
