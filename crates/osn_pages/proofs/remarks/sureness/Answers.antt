use Rattle.std.proofs.Common.{refl}
use Rattle.osn_pages.proofs.remarks.sureness.Goals as goal

pub returns-in-true-true-true : goal.returns-in-true-true-true
returns-in-true-true-true c =
    let signs = c.in-true-true-true in rw signs.is-0 (rw signs.is-1 (rw signs.is-2 refl))

pub returns-in-true-true-false : goal.returns-in-true-true-false
returns-in-true-true-false c =
    let signs = c.in-true-true-false in rw signs.is-0 (rw signs.is-1 (rw signs.is-2 refl))

pub returns-in-true-false-true : goal.returns-in-true-false-true
returns-in-true-false-true c =
    let signs = c.in-true-false-true in rw signs.is-0 (rw signs.is-1 (rw signs.is-2 refl))
