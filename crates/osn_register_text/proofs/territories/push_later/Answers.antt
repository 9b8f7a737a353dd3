use Rattle.std.proofs.Common.{◌++◌, ap, ◌∙◌}
use Rattle.osn_register_text.specs.PlanInside.{sources_at}
use Rattle.osn_register_text.proofs.ChangeEdits.{two, later_mapped, ok_by}
use Rattle.osn_register_text.proofs.territories.push_later.Goals as goal

pub returns : goal.returns
returns c = ok_by c.push_additions-2.result
    (λ is. two c.args.edits.now.items _ _ _ _ c.in_ok-push_additions.ensures is
    ∙ ap (λ es. c.args.edits.now.items ++ es)
    (later_mapped c.args.pair.code.now (sources_at c.args.pair).target c.args.target.now
    c.periods.result.now c.periods.ensures.value))
    c.push_additions-2.ensures
