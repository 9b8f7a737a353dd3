use Rattle.std.proofs.Common.{sym}
use Rattle.osn_lines.proofs.EndedLemmas.{ended-none, ended-at}
use Rattle.osn_lines.proofs.last_line_feed.ended_length.Goals as goal

pub returns-in-Some-clause-value : goal.returns-in-Some-clause-value
returns-in-Some-clause-value c =
    sym (ended-at c.args.bytes.now c.in-Some.index c.in-Some.ensures.0 c.in-Some.ensures.1)

pub returns-in-None-clause-value : goal.returns-in-None-clause-value
returns-in-None-clause-value c = sym (ended-none c.args.bytes.now c.in-None.ensures)
