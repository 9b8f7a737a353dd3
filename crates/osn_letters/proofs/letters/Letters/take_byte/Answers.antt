use Rattle.std.proofs.Common.{◌≡◌, ◌∙◌, [], ◌∷◌, None, rules}
use Rattle.std.proofs.lemmas.Result.{on_ok_weaker, IfErr-weaker}
use Rattle.osn_letters.specs.ByteOrderMark.{held, next_start}
use Rattle.osn_letters.proofs.CountFacts.{after_counted, mark_counted, text_counted}
use Rattle.osn_letters.proofs.LetterFacts.{err_of_fault, mark_taken, text_taken, text_stops}
use Rattle.osn_letters.proofs.LetterFacts.{stops_first}
use Rattle.osn_letters.proofs.LetterFacts.{after_then, after_stops}
use Rattle.osn_letters.proofs.letters.Letters.take_byte.Goals as goal

pub returns-in-Some-clause-takes : goal.returns-in-Some-clause-takes
returns-in-Some-clause-takes c =
    mark_taken c.args.self.now c.in-Some.start c.args.byte (search rules)

pub returns-in_err-take_held-clause-stops : goal.returns-in_err-take_held-clause-stops
returns-in_err-take_held-clause-stops c =
    let s = c.args.self.now in
    let none : next_start s.start c.args.byte ≡ None = search rules in
    err_of_fault _ c.from_residual.result c.in_err-take_held.field-0.0 c.from_residual.ensures.1
    (text_stops s c.take_held.new.self c.args.byte c.in_err-take_held.field-0.0 none
    (stops_first s c.take_held.new.self (held s.start) (c.args.byte ∷ [])
    c.in_err-take_held.field-0.0 c.in_err-take_held.ensures.stops))

pub returns-clause-takes : goal.returns-clause-takes
returns-clause-takes c =
    let s = c.args.self.now in
    let none : next_start s.start c.args.byte ≡ None = search rules in
    on_ok_weaker c.take_after.result
    (λ h. text_taken s c.take_after.new.self c.args.byte none
    (c.take_after.ensures.start ∙ c.take_held.ensures.start)
    (after_then s c.take_held.new.self c.take_after.new.self (held s.start)
    (c.args.byte ∷ []) c.in_ok-take_held.ensures.takes h))
    c.take_after.ensures.takes

pub returns-clause-stops : goal.returns-clause-stops
returns-clause-stops c =
    let s = c.args.self.now in
    let none : next_start s.start c.args.byte ≡ None = search rules in
    IfErr-weaker c.take_after.result _ _
    (λ fault h. text_stops s c.take_after.new.self c.args.byte fault none
    (after_stops s c.take_held.new.self c.take_after.new.self (held s.start)
    (c.args.byte ∷ []) fault c.in_ok-take_held.ensures.takes h))
    c.take_after.ensures.stops

pub returns-in-Some-clause-counts : goal.returns-in-Some-clause-counts
returns-in-Some-clause-counts c =
    mark_counted c.args.self.now c.in-Some.start c.args.byte (search rules)

pub returns-clause-counts : goal.returns-clause-counts
returns-clause-counts c =
    let s = c.args.self.now in
    let none : next_start s.start c.args.byte ≡ None = search rules in
    on_ok_weaker c.take_after.result
    (λ h. text_counted s c.take_after.new.self c.args.byte none
    (c.take_after.ensures.start ∙ c.take_held.ensures.start)
    (after_counted s c.take_held.new.self c.take_after.new.self (held s.start)
    (c.args.byte ∷ []) c.in_ok-take_held.ensures.counts h))
    c.take_after.ensures.counts
