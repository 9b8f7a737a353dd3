use Rattle.osn_lines.proofs.LineLemmas.{whole_end}
use Rattle.osn_lines.proofs.pieces.take_line.Goals as goal

pub returns-in-Ok-clause-takes : goal.returns-in-Ok-clause-takes
returns-in-Ok-clause-takes g c = λ part h.
    c.in-Ok.ensures.takes _ (whole_end part _ (c.is_empty.ensures.empty c.if-is_empty.true part h)
    c.requires)

pub returns-in-Err-clause-fault : goal.returns-in-Err-clause-fault
returns-in-Err-clause-fault g c = λ part h.
    c.in-Err.ensures.stop _ (whole_end part _ (c.is_empty.ensures.empty c.if-is_empty.true part h)
    c.requires)

pub returns-in-Ok-take-clause-takes : goal.returns-in-Ok-take-clause-takes
returns-in-Ok-take-clause-takes g c = λ part h.
    c.in-Ok-take.ensures.takes _ (c.as_line.ensures _ (c.in-Ok-add.ensures part h))

pub returns-in-Err-take-clause-fault : goal.returns-in-Err-take-clause-fault
returns-in-Err-take-clause-fault g c = λ part h.
    c.in-Err-take.ensures.stop _ (c.as_line.ensures _ (c.in-Ok-add.ensures part h))
