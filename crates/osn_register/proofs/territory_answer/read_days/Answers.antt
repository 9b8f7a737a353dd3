use Rattle.std.proofs.Common.{ap, ◌∙◌}
use Rattle.osn_days.specs.Rules.{newest_rules}
use Rattle.osn_register.specs.Answer.{found_on, found_under}
use Rattle.osn_register.proofs.FoundFacts.{found_more, found_all}
use Rattle.osn_register.proofs.territory_answer.read_days.Goals as goal

pub loop-day-preserved : goal.loop-day-preserved
loop-day-preserved c = found_more (found_on newest_rules c.args.territory.now) c.args.days.now
    c.loop-day.day-index
    c.day-item.result c.loop-day.found.items c.push.new.self.items c.in_ok-found_under.field-0
    c.loop-day-test.true c.day-item.is c.loop-day.invariant c.in_ok-push.ensures.items
    (c.in_ok-found_under.ensures ∙ ap (λ r. found_under newest_rules r c.day-item.result)
    c.regime_at.ensures)

pub returns : goal.returns
returns c = found_all (found_on newest_rules c.args.territory.now) c.args.days.now
    c.loop-day.day-index
    c.loop-day.found.items c.loop-day-test.false c.loop-day.invariant
