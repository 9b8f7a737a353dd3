use Rattle.std.proofs.Common.{◌≡◌, ◌++◌, ◌∙◌, refl, string_bytes, subst, sym, rules, codes, pos}
use Rattle.std.proofs.Common.{append_assoc}
use Rattle.std.specs.Fmt.{decimal}
use Rattle.osn_days.specs.Rules.{newest_rules}
use Rattle.osn_territory.specs.Dual as dual
use Rattle.osn_territory.proofs.EarlierRulesFacts.{same_text}
use Rattle.osn_territory.proofs.dual.dual_text.Goals as goal

pub returns-clause-value : goal.returns-clause-value
returns-clause-value c =
    let date = c.date_and_year-year.result.0 in
    let year = c.date_and_year-year.result.1 in
    let style_year : pos c.unsigned_abs.result ≡ year = search rules in
    let counted : pos c.unsigned_abs-2.result ≡ date.year = search rules in
    let day = decimal date.day in
    let name = c.month_name.result.now in
    let years = codes " " ++ dual.year_text year date.year in
    let written : string_bytes c.push_year.new.text ≡ ((day ++ codes " ") ++ name) ++ years =
    search rules
    in
    let text : dual.date_text year date ≡ dual.dual_text newest_rules c.args.regime c.args.day =
    rw (c.date_and_year-year.ensures.year, c.date_and_year-year.ensures.date) refl
    in
    let whole : day ++ (codes " " ++ (name ++ years)) ≡ dual.date_text year date =
    rw c.month_name.ensures refl
    in
    written
    ∙ append_assoc (day ++ codes " ") name years
    ∙ append_assoc day (codes " ") (name ++ years)
    ∙ whole
    ∙ text

pub returns-clause-earlier_rules : goal.returns-clause-earlier_rules
returns-clause-earlier_rules c until =
    subst (λ text. string_bytes c.push_year.new.text ≡ text)
    (sym (same_text c.args.regime c.args.day until)) (returns-clause-value c)
