use Rattle.std.proofs.Common.{◌≡◌, ◌++◌, map, take}
use Rattle.std.specs.List.{flat_map}
use Rattle.osn_register_text.specs.Change.{edit_of}
use Rattle.osn_register_text.specs.Differences as spec
use Rattle.osn_register_text.specs.PlanInside.{sources_at}
use Rattle.osn_register_text.proofs.plan_changes.push_additions.Given as goal

-- the additions so far
abbrev pub invariant-loop-period : goal.invariant-loop-period
invariant-loop-period l =
    l.edits.items ≡ l.initial.edits.items
    ++ flat_map (λ p. map (edit_of l.pair.code.now)
    (spec.added_change (sources_at l.pair).target (p.first, p.regime)))
    (take l.period-index l.periods)
