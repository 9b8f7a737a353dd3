use Rattle.std.proofs.Common.{◌≡◌, ◌+◌, None, drop}
use Rattle.toml.specs.View.{items_view}
use Rattle.osn_register_text.specs.Inside.{onto}
use Rattle.osn_register_text.specs.TerritoryText.{changes_from}
use Rattle.osn_register_text.proofs.territory_text.push_changes.Given as goal

-- The changes that are left, onto the edits so far, are all changes onto the edits before them.
abbrev pub invariant-loop-index : goal.invariant-loop-index
invariant-loop-index l =
    onto l.initial.edits.items
    (changes_from l.territory.code.now 1 None l.fn.opening (items_view l.changes))
    ≡ onto l.edits.items
    (changes_from l.territory.code.now (l.index + 1) l.before l.regime
    (items_view (drop l.index l.changes)))
