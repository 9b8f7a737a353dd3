use Rattle.std.proofs.Common.{◌≤◌, List, length, refl, ap, subst, arith}
use mathlib.Core.List.{IsPrefix}
use Rattle.osn_register.specs.declared.edit.Edit.{Edit}
use Rattle.osn_live.proofs.Prefixes.{begins_shorter}
use Rattle.osn_live.proofs.history.Certificate.follow.Goals as goal

pub returns : goal.returns
returns c =
    let both = c.learn.new.self.log in
    let xs = c.self.inside.seen.log in
    let ys = c.later.inside.seen.log in
    let this : IsPrefix xs both = subst (λ (l : List (List Edit)). IsPrefix l both)
    (ap (λ s. s.log) c.again-both.ensures) c.learn.ensures.2 in
    let less : length xs ≤ length ys =
    omega (arith, c.self.invariant, c.later.invariant, c.if-later-self.false) in
    rw (← c.self.view_is, ← c.later.view_is)
    (begins_shorter xs ys both this c.learn.ensures.3 less, refl)
