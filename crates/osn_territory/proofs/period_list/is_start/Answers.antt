use Rattle.std.proofs.Common.{◌==◌, sym, ap, ◌∙◌}
use Rattle.osn_days.specs.Rules.{newest_rules}
use Rattle.osn_territory.proofs.ChangeFacts.{found_start}
use Rattle.osn_territory.proofs.period_list.is_start.Goals as goal

pub returns : goal.returns
returns c =
    let ps = c.args.periods.now in
    let found = c.find_period.ensures in
    let p = c.index-periods-find_period in
    c.eq.ensures
    ∙ ap (λ q. q.first == c.args.day) (sym p.is)
    ∙ sym (found_start ps c.find_period.result.0 newest_rules.high c.args.day p.result c.requires
    found.within found.holds p.is)
