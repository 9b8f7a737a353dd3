use Rattle.std.proofs.Common.{◌++◌, sym, ap, ◌∙◌}
use Rattle.osn_days.specs.Rules.{newest_rules}
use Rattle.osn_territory.specs.EasterSearch.{days_in_order}
use Rattle.osn_territory.proofs.EasterFacts.{easters_are}
use Rattle.osn_territory.proofs.EarlierRulesFacts.{same_easters}
use Rattle.osn_territory.proofs.territory.Territory.easters.Goals as goal

pub returns-clause-value : goal.returns-clause-value
returns-clause-value c =
    let one = c.easter_in_force-julian.result in
    let other = c.easter_in_force-gregorian.result in
    c.in_ok-push_in_order.ensures
    ∙ ap (λ ds. ds ++ days_in_order one other) c.new-days.ensures.items
    ∙ easters_are newest_rules c.args.self.now c.args.year one other (sym c.exception.ensures
    ∙ c.in_default.is) c.easter_in_force-julian.ensures c.easter_in_force-gregorian.ensures

pub returns-clause-earlier_rules : goal.returns-clause-earlier_rules
returns-clause-earlier_rules c year =
    returns-clause-value c ∙ same_easters c.args.self.now c.args.year year
