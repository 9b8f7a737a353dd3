use Rattle.std.proofs.Common.{◌≡◌, ◌++◌}
use Rattle.std.specs.List.{All}
use Rattle.std.specs.Vec.Iter.{into_iter_items}
use Rattle.osn_core.specs.Sequential.{HasLawfulSource}
use Rattle.osn_commands.specs.Edition.{edition_refusal}
use Rattle.osn_commands.proofs.edition.make_edition.Given as goal

-- all edits are refused as those that are left, and staged with them, and no edition was made
abbrev pub invariant-loop-edit : goal.invariant-loop-edit
invariant-loop-edit l =
    (goal.iterator-loop-edit).can_next l.edit-iterator
    × (goal.iterator-loop-edit).is_finite l.edit-iterator
    × (edition_refusal l.initial.object l.fn.edits.items
    ≡ edition_refusal l.object (into_iter_items l.edit-iterator))
    × (l.object.batches ≡ l.initial.object.batches)
    × (l.object.limits ≡ l.initial.object.limits)
    × (l.object.pending ++ into_iter_items l.edit-iterator
    ≡ l.initial.object.pending ++ l.fn.edits.items)
    × (All HasLawfulSource (into_iter_items l.edit-iterator)
    → All HasLawfulSource l.fn.edits.items)
