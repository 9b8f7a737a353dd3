use Rattle.std.proofs.Common.{◌≤◌, List, length, refl, ap, subst, arith, inl, inr}
use mathlib.Core.List.{IsPrefix}
use Rattle.osn_register.specs.declared.edit.Edit.{Edit}
use Rattle.osn_live.proofs.Prefixes.{begins_shorter}
use Rattle.osn_live.proofs.history.Certificate.learn.Goals as goal

pub returns-then-self-other-clause-later : goal.returns-then-self-other-clause-later
returns-then-self-other-clause-later c =
    let both = c.learn.new.self.log in
    let xs = c.self.inside.seen.log in
    let ys = c.other.inside.seen.log in
    let this : IsPrefix xs both = subst (λ (l : List (List Edit)). IsPrefix l both)
    (ap (λ s. s.log) c.again-both.ensures) c.learn.ensures.2 in
    let less : length xs ≤ length ys = omega (arith, c.self.invariant, c.other.invariant) in
    rw (← c.self.view_is, ← c.other.view_is)
    (inl (begins_shorter xs ys both this c.learn.ensures.3 less, refl))

pub returns-else-self-other-clause-later : goal.returns-else-self-other-clause-later
returns-else-self-other-clause-later c =
    let both = c.learn.new.self.log in
    let xs = c.self.inside.seen.log in
    let ys = c.other.inside.seen.log in
    let this : IsPrefix xs both = subst (λ (l : List (List Edit)). IsPrefix l both)
    (ap (λ s. s.log) c.again-both.ensures) c.learn.ensures.2 in
    let less : length ys ≤ length xs = omega (arith, c.self.invariant, c.other.invariant) in
    rw (← c.self.view_is, ← c.other.view_is)
    (inr (begins_shorter ys xs both c.learn.ensures.3 this less, refl))
