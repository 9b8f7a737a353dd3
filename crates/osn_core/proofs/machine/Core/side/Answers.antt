use Rattle.std.proofs.Common.{◌∙◌, subst}
use Rattle.osn_days.specs.Rules.{newest_rules}
use Rattle.osn_core.specs.Control.{reader_at}
use Rattle.osn_core.specs.LiveAndStandby.{IsSeenBy}
use Rattle.osn_core.specs.CoreInside.{core_in}
use Rattle.osn_core.specs.Machine.{CoreState}
use Rattle.osn_core.proofs.ReaderPositions.{seen_by, standby_side}
use Rattle.osn_core.proofs.ReaderMoves.{test_other}
use Rattle.osn_core.proofs.machine.Core.side.Goals as goal

pub returns-else-side-self-clause-readers : goal.returns-else-side-self-clause-readers
returns-else-side-self-clause-readers c reader =
    let core = core_in c.self.inside in
    subst (λ (s : CoreState). IsSeenBy newest_rules s.object c.args.side
    c.standby.result.now.territories (reader_at s.control.readers reader)) c.self.view_is
    (seen_by core c.args.side c.standby.result.now.territories reader c.self.invariant
    (c.standby.ensures.territories ∙ standby_side core c.args.side c.self.invariant
    (test_other c.args.side c.self.inside.side c.if-side-self.false)))
