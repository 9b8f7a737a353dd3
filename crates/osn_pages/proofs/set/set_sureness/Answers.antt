use Rattle.std.proofs.Common.{refl}
use Rattle.osn_pages.proofs.set.set_sureness.Goals as goal

pub returns-in-true-true : goal.returns-in-true-true
returns-in-true-true c = let said = c.in-true-true in rw said.is-0 (rw said.is-1 refl)
