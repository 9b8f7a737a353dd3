use Rattle.std.proofs.Common.{subst, sym}
use Rattle.osn_days.specs.Rules.{first_rules}
use Rattle.osn_territory.specs.EarlierRules.{KeepsReading}
use Rattle.osn_territory.proofs.EarlierRulesFacts.{same_reading}
use Rattle.osn_territory.proofs.territory.Territory.read_and_skipped.Goals as goal

pub returns-clause-skipped : goal.returns-clause-skipped
returns-clause-skipped c = rw c.new-search.ensures.label at c.in_ok-skipped.ensures.value

pub returns-clause-read : goal.returns-clause-read
returns-clause-read c = rw c.new-search.ensures.label at c.in_ok-days.ensures.value

pub returns-clause-earlier_rules : goal.returns-clause-earlier_rules
returns-clause-earlier_rules c =
    let t = c.args.self.now in
    subst (KeepsReading first_rules t c.args.label) (sym (returns-clause-read c))
    (same_reading t c.args.label)
