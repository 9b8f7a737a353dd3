use Rattle.std.proofs.Common.{sym}
use Rattle.osn_days.specs.Rules.{newest_rules}
use Rattle.osn_territory.proofs.TableFacts.{between_ends, even_ends, between_none, even_none}
use Rattle.osn_territory.proofs.candidate_table.CandidateTable.span.Goals as goal

pub returns-then-is_empty-clause-between : goal.returns-then-is_empty-clause-between
returns-then-is_empty-clause-between c =
    between_none newest_rules c.args.label c.args.self.now 1 1 c.requires
    (sym c.if-is_empty.ensures)

pub returns-then-is_empty-clause-even : goal.returns-then-is_empty-clause-even
returns-then-is_empty-clause-even c =
    even_none newest_rules c.args.label c.args.self.now 1 1 c.requires (sym c.if-is_empty.ensures)

pub returns-in-Some-clause-between : goal.returns-in-Some-clause-between
returns-in-Some-clause-between c =
    between_ends newest_rules c.args.label c.args.self.now c.in-Some.ends.0 c.in-Some.ends.1
    c.requires
    c.in-Some.ensures

pub returns-in-Some-clause-even : goal.returns-in-Some-clause-even
returns-in-Some-clause-even c =
    even_ends newest_rules c.args.label c.args.self.now c.in-Some.ends.0 c.in-Some.ends.1 c.requires
    c.in-Some.ensures
