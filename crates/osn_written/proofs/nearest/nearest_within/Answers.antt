use Rattle.std.proofs.Common.{arith, rules}
use Rattle.osn_days.specs.Rules.{newest_rules}
use Rattle.osn_written.specs.Nearest as spec
use Rattle.osn_written.proofs.NearestFacts.{begin_years, next_years}
use Rattle.osn_written.proofs.nearest.nearest_within.Goals as goal

pub loop-years-init : goal.loop-years-init
loop-years-init c = begin_years newest_rules c.args.territory.now c.args.date c.args.most

pub loop-years-preserved : goal.loop-years-preserved
loop-years-preserved c = next_years (spec.days_apart newest_rules c.args.territory.now c.args.date)
    _ c.in_ok-days.days.items c.loop-years.years c.args.most (omega arith) c.loop-years.invariant
    c.in_ok-days.ensures (search rules)
