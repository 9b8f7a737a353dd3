use Rattle.std.proofs.Common.{◌∙◌, sym, rules}
use Rattle.osn_territory.proofs.EarlierRulesFacts.{same_local}
use Rattle.osn_territory.proofs.label.label_of.Goals as goal

pub returns-clause-value : goal.returns-clause-value
returns-clause-value c = search rules

pub returns-clause-earlier_rules : goal.returns-clause-earlier_rules
returns-clause-earlier_rules c until =
    returns-clause-value c ∙ sym (same_local c.args.regime c.args.day until)
