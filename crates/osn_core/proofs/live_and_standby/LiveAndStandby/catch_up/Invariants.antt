use Rattle.std.proofs.Common.{◌≡◌}
use Rattle.osn_core.proofs.live_and_standby.LiveAndStandby.catch_up.Given as goal

abbrev pub invariant-loop-self : goal.invariant-loop-self
invariant-loop-self l = l.self.object ≡ l.fn.self.object

abbrev pub decreases-loop-self : goal.decreases-loop-self
decreases-loop-self l = l.self.lag
