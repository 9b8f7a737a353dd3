use Rattle.std.proofs.Common.{string_bytes, rules, ◌++◌, ◌∙◌, ap}
use Rattle.std.proofs.lemmas.Result.{on_ok_weaker}
use Rattle.osn_days.specs.Rules.{newest_rules}
use Rattle.osn_pages.proofs.AlmanacYearFacts.{line_of_ends}
use Rattle.osn_pages.proofs.year_days.push_piece.Goals as goal

pub returns : goal.returns
returns c =
    let line = line_of_ends newest_rules c.args.part c.args.year c.args.piece.now
    c.index-piece-0.result c.index-piece-piece.result c.requires c.index-piece-0.is
    c.index-piece-piece.is in
    on_ok_weaker c.push_part.result
    (λ e. e ∙ ap (λ s. string_bytes c.args.out.now ++ s) (search (rules, line)))
    c.push_part.ensures
