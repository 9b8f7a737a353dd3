use Rattle.std.proofs.Common.{◌≡◌, ◌++◌, map, take}
use Rattle.std.specs.List.{flat_map}
use Rattle.osn_register_text.specs.Change.{edit_of}
use Rattle.osn_register_text.specs.Differences as spec
use Rattle.osn_register_text.proofs.plan_changes.push_drops.Given as goal

-- the drops so far
abbrev pub invariant-loop-period : goal.invariant-loop-period
invariant-loop-period l =
    l.edits.items ≡ l.initial.edits.items
    ++ flat_map (λ p. map (edit_of l.pair.code.now) (spec.dropped_change l.target p.first))
    (take l.period-index l.current)
