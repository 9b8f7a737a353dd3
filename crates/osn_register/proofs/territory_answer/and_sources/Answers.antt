use Rattle.std.proofs.Common.{Some}
use Rattle.osn_register.specs.Answer.{and_source}
use Rattle.osn_register.specs.Inside.{sources_in}
use Rattle.osn_register.proofs.FoundFacts.{found_more, found_all}
use Rattle.osn_register.proofs.territory_answer.and_sources.Goals as goal

pub loop-period-preserved : goal.loop-period-preserved
loop-period-preserved c =
    found_more (and_source (Some (sources_in c.args.sources.now))) c.args.periods.now
    c.loop-period.period-index c.period-item.result c.loop-period.list.items c.push.new.self.items
    c.in_ok-and_source.field-0 c.loop-period-test.true c.period-item.is c.loop-period.invariant
    c.in_ok-push.ensures.items c.in_ok-and_source.ensures

pub returns : goal.returns
returns c =
    found_all (and_source (Some (sources_in c.args.sources.now))) c.args.periods.now
    c.loop-period.period-index c.loop-period.list.items c.loop-period-test.false
    c.loop-period.invariant
