use Rattle.std.proofs.Common.{sym, ◌∙◌}
use Rattle.std.proofs.lemmas.Bool.{and_parts, not-true}
use Rattle.osn_days.specs.Rules.{newest_rules}
use Rattle.osn_territory.proofs.SearchFacts.{names_none}
use Rattle.osn_territory.proofs.reading.is_skipped_at.Goals as goal

pub returns-then-has_fixed_beginnings : goal.returns-then-has_fixed_beginnings
returns-then-has_fixed_beginnings c =
    let s = c.args.search.now in
    let fixed = and_parts _ _ (sym c.has_fixed_beginnings.ensures
    ∙ c.if-has_fixed_beginnings.true) in
    names_none newest_rules s.label c.args.old.now c.args.new.now s.table s.first s.last
    c.requires.old c.requires.new
    c.requires.line.0 c.requires.line.1 c.requires.search.1 c.requires.search.2
    (not-true _ fixed.0) (not-true _ fixed.1) (sym c.if-not-straddles.ensures)
