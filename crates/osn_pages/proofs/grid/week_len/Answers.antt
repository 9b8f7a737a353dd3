use Rattle.std.proofs.Common.{arith, rules, get_or, ◌-◌}
use Rattle.std.proofs.lemmas.List.{get_or_default}
use Rattle.osn_pages.specs.Grid as spec
use Rattle.osn_pages.proofs.GridFacts.{piece_cut, at_cut, one_piece}
use Rattle.osn_pages.proofs.grid.week_len.Goals as goal

pub returns-then-begins_week-clause-cut : goal.returns-then-begins_week-clause-cut
unfolding spec.weeks_of
returns-then-begins_week-clause-cut c =
    let days = c.args.days.now in
    let found = c.index-days-place.result in
    let before = get_or days (c.loop-place.place - 1) found in
    piece_cut spec.is_in_week c.loop-place.place days (omega arith) (omega arith)
    c.loop-place.invariant
    (at_cut spec.is_in_week days c.loop-place.place before found (omega arith)
    (get_or_default days (c.loop-place.place - 1) found before (omega arith))
    c.index-days-place.is (search rules))

pub returns-clause-cut : goal.returns-clause-cut
unfolding spec.weeks_of
returns-clause-cut c =
    one_piece spec.is_in_week c.args.days.now (omega arith)
    (λ k d low. c.loop-place.invariant k d (omega (arith, low)))
