use Rattle.std.proofs.Common.{string_bytes, rules}
use Rattle.osn_pages.proofs.AlmanacYearFacts.{no_parts}
use Rattle.osn_pages.proofs.year_days.push_pieces.Goals as goal

pub returns : goal.returns
returns c = no_parts c.args.part _ _ (string_bytes c.loop-rest.out) c.loop-rest.rest.now
    (search rules) c.loop-rest.invariant
