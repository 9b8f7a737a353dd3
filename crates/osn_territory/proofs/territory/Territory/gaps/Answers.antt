use Rattle.std.proofs.Common.{◌<◌, ◌∙◌, ap, sym, subst, filter, rules}
use Rattle.std.proofs.lemmas.Fn.{filter_same}
use Rattle.std.specs.List.{All}
use Rattle.osn_days.specs.Rules.{newest_rules}
use Rattle.osn_territory.specs.LabelOrder as order
use Rattle.osn_territory.specs.Territory.{skipped}
use Rattle.osn_territory.proofs.GapFacts.{later_gaps}
use Rattle.osn_territory.proofs.territory.Territory.gaps.Goals as goal

pub returns-clause-value : goal.returns-clause-value
returns-clause-value c =
    let test = order.is_in_gap newest_rules c.args.self.now c.args.label in
    filter_same _ test _ (λ change answer after called. search rules) _ _ c.retain.ensures.filtered
    ∙ ap (filter test) c.in_ok-days.ensures.value

pub returns-clause-later : goal.returns-clause-later
returns-clause-later c =
    let t = c.args.self.now in
    let label = c.args.label in
    subst (All (λ f. 1 < f)) (sym (returns-clause-value c))
    (later_gaps newest_rules t label (skipped newest_rules t label))
