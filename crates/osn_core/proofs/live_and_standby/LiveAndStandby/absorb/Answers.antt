use Rattle.std.proofs.Common.{◌<◌, sym, subst}
use Rattle.osn_core.proofs.InStep.{next_read, lawful_next, one_absorbed}
use Rattle.osn_core.proofs.live_and_standby.LiveAndStandby.absorb.Goals as goal

pub admit-requires : goal.admit-requires
admit-requires c =
    let in_step = c.self.invariant in
    let some : 0 < c.self.inside.lag = subst (λ s. 0 < s.lag) (sym c.self.view_is) c.requires in
    lawful_next c.self.inside.draft c.self.inside.batches.items c.self.inside.lag
    c.self.inside.other c.next_edit.result.now in_step
    (next_read c.self.inside.batches.items c.deref.result.now c.self.inside.lag
    c.next_edit.result.now some in_step.lag_is_of_last c.deref.ensures.value c.next_edit.ensures)

pub invariant_of-self-2 : goal.invariant_of-self-2
invariant_of-self-2 c =
    let in_step = c.self.invariant in
    let some : 0 < c.self.inside.lag = subst (λ s. 0 < s.lag) (sym c.self.view_is) c.requires in
    one_absorbed c.self.inside.draft c.self.inside.batches.items c.self.inside.lag
    c.self.inside.other c.admit.new.self c.next_edit.result.now in_step
    (next_read c.self.inside.batches.items c.deref.result.now c.self.inside.lag
    c.next_edit.result.now some in_step.lag_is_of_last c.deref.ensures.value c.next_edit.ensures)
    c.in_ok-admit.ensures.ok
