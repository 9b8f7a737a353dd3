use Rattle.std.proofs.Common.{arith, rules}
use Rattle.osn_pages.proofs.GridFacts.{piece_cut, at_cut, one_piece}
use Rattle.osn_pages.specs.YearPage as spec
use Rattle.osn_pages.proofs.year_days.piece_len.Goals as goal

pub returns-then-not-goes_on-clause-cut : goal.returns-then-not-goes_on-clause-cut
unfolding spec.parts_of
returns-then-not-goes_on-clause-cut c =
    piece_cut (spec.goes_on c.args.part) c.loop-place.place c.args.days.now (omega arith)
    (omega arith) c.loop-place.invariant
    (at_cut (spec.goes_on c.args.part) c.args.days.now c.loop-place.place
    c.index-days-place.result c.index-days-place-in-loop-place.result (omega arith)
    c.index-days-place.is c.index-days-place-in-loop-place.is (search rules))

pub returns-clause-cut : goal.returns-clause-cut
unfolding spec.parts_of
returns-clause-cut c =
    one_piece (spec.goes_on c.args.part) c.args.days.now (omega arith)
    (λ k d low. c.loop-place.invariant k d (omega (arith, low)))
