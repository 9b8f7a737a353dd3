use Rattle.std.proofs.Common.{arith}
use Rattle.osn_territory.proofs.YearDigits.{last_digit_differs, earlier_digit_differs}
use Rattle.osn_territory.proofs.dual.+later_part.Goals as goal

pub returns-then-earlier-later-clause-digits : goal.returns-then-earlier-later-clause-digits
returns-then-earlier-later-clause-digits t c =
    last_digit_differs c.args.earlier c.args.later (omega arith) (omega arith) (omega arith)

pub returns-else-earlier-later-clause-digits : goal.returns-else-earlier-later-clause-digits
returns-else-earlier-later-clause-digits t c =
    earlier_digit_differs c.args.earlier c.args.later c.later_part.result (omega arith)
    (omega arith) c.if-earlier-later.false
    (omega arith) (omega arith) c.later_part.ensures.digits
