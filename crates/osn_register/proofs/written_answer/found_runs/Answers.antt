use Rattle.osn_days.specs.Rules.{newest_rules}
use Rattle.osn_register.specs.Answer.{found_run}
use Rattle.osn_register.proofs.FoundFacts.{found_more, found_all}
use Rattle.osn_register.proofs.written_answer.found_runs.Goals as goal

pub loop-run-preserved : goal.loop-run-preserved
loop-run-preserved c = found_more (found_run newest_rules c.args.territory.now) c.args.runs.now
    c.loop-run.run-index
    c.run-item.result c.loop-run.found.items c.push.new.self.items c.in_ok-found_run.field-0
    c.loop-run-test.true c.run-item.is c.loop-run.invariant c.in_ok-push.ensures.items
    c.in_ok-found_run.ensures

pub returns : goal.returns
returns c = found_all (found_run newest_rules c.args.territory.now) c.args.runs.now
    c.loop-run.run-index
    c.loop-run.found.items c.loop-run-test.false c.loop-run.invariant
