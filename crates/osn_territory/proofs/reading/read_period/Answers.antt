use Rattle.std.proofs.Common.{◌++◌, filter, sym, ap, ◌∙◌}
use Rattle.std.proofs.lemmas.List.{append-nil}
use Rattle.osn_days.specs.Rules.{newest_rules}
use Rattle.osn_territory.specs.PeriodList.{is_held}
use Rattle.osn_territory.proofs.ReadingFacts.{held_days}
use Rattle.osn_territory.proofs.SearchFacts.{reads_none}
use Rattle.osn_territory.proofs.reading.read_period.Goals as goal

pub returns-then-not-overlaps-clause-value : goal.returns-then-not-overlaps-clause-value
returns-then-not-overlaps-clause-value c =
    let p = c.args.period.now in
    let s = c.args.search.now in
    let items = c.args.days.now.items in
    sym (append-nil items)
    ∙ ap (λ found. items ++ found) (reads_none newest_rules s.label p s.table s.first s.last
    c.requires.known c.requires.line.0
    c.requires.line.1 c.requires.line.2 c.requires.search.1 (sym c.if-not-overlaps.ensures))

pub returns-clause-value : goal.returns-clause-value
returns-clause-value c =
    let p = c.args.period.now in
    c.in_ok-push_in.ensures
    ∙ ap (λ found. c.args.days.now.items ++ filter (is_held p) found)
    c.days-candidates.ensures.value
    ∙ ap (λ found. c.args.days.now.items ++ found)
    (held_days newest_rules c.args.search.now.label p c.requires.line.0 c.requires.line.1
    c.requires.line.2)
