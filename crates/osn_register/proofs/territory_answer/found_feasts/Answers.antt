use Rattle.osn_days.specs.Rules.{newest_rules}
use Rattle.osn_register.specs.Answer.{found_feast}
use Rattle.osn_register.proofs.FoundFacts.{found_more, found_all}
use Rattle.osn_register.proofs.territory_answer.found_feasts.Goals as goal

pub loop-feast-preserved : goal.loop-feast-preserved
loop-feast-preserved c = found_more (found_feast newest_rules c.args.territory.now) c.args.feasts.now
    c.loop-feast.feast-index
    c.feast-item.result c.loop-feast.found.items c.push.new.self.items c.in_ok-found_feast.field-0
    c.loop-feast-test.true c.feast-item.is c.loop-feast.invariant c.in_ok-push.ensures.items
    c.in_ok-found_feast.ensures

pub returns : goal.returns
returns c = found_all (found_feast newest_rules c.args.territory.now) c.args.feasts.now
    c.loop-feast.feast-index
    c.loop-feast.found.items c.loop-feast-test.false c.loop-feast.invariant
