use Rattle.std.proofs.Common.{string_bytes, rules}
use Rattle.osn_pages.proofs.GridFacts.{no_weeks}
use Rattle.osn_pages.proofs.grid.push_weeks.Goals as goal

pub returns : goal.returns
returns c = no_weeks _ (string_bytes c.loop-rest.out) c.loop-rest.rest.now (search rules)
    c.loop-rest.invariant
