use Rattle.std.proofs.Common.{◌≡◌, ◌++◌, map}
use Rattle.std.specs.List.{flat_map}
use Rattle.osn_register_text.specs.Change.{edit_of}
use Rattle.osn_register_text.specs.Differences as spec
use Rattle.osn_register_text.specs.PlanInside.{sources_at}
use Rattle.osn_register_text.proofs.exceptions.push_additions.Given as goal

-- the edits of the days that are left are still to come
abbrev pub invariant-loop-year : goal.invariant-loop-year
invariant-loop-year l =
    l.initial.edits.items
    ++ flat_map (λ e. map (edit_of l.pair.code.now)
    (spec.added_exception (sources_at l.pair).target e)) l.target.exceptions
    ≡ l.edits.items ++ flat_map (λ e. map (edit_of l.pair.code.now)
    (spec.added_exception (sources_at l.pair).target e)) l.year-iterator
