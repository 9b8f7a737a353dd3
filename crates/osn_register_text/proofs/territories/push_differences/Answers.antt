use Rattle.std.proofs.Common.{◌++◌, ap, ◌∙◌}
use Rattle.osn_register_text.specs.PlanInside.{sources_at}
use Rattle.osn_register_text.proofs.ChangeEdits.{four, differences_mapped, ok_by}
use Rattle.osn_register_text.proofs.territories.push_differences.Goals as goal

pub returns : goal.returns
returns c = ok_by c.push_all_added-2.result
    (λ is. four c.args.edits.now.items _ _ _ _ _ _ _ _ c.in_ok-push_drops.ensures
    c.in_ok-push_all_added.ensures c.in_ok-push_drops-2.ensures is
    ∙ ap (λ es. c.args.edits.now.items ++ es)
    (differences_mapped c.args.pair.code.now (sources_at c.args.pair) c.args.current.now
    c.args.target.now c.periods.result.now c.periods-2.result.now c.periods.ensures.value
    c.periods-2.ensures.value))
    c.push_all_added-2.ensures
