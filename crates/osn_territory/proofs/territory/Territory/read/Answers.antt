use Rattle.std.proofs.Common.{subst, sym}
use Rattle.osn_days.specs.Rules.{first_rules}
use Rattle.osn_territory.specs.EarlierRules.{KeepsReading}
use Rattle.osn_territory.proofs.EarlierRulesFacts.{same_reading}
use Rattle.osn_territory.proofs.territory.Territory.read.Goals as goal

pub returns-clause-value : goal.returns-clause-value
returns-clause-value c = c.in_ok-days.ensures.value

pub returns-clause-earlier_rules : goal.returns-clause-earlier_rules
returns-clause-earlier_rules c =
    let t = c.args.self.now in
    subst (KeepsReading first_rules t c.args.label) (sym c.in_ok-days.ensures.value)
    (same_reading t c.args.label)
