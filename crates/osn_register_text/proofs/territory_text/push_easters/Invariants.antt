use Rattle.std.proofs.Common.{◌≡◌, ◌+◌, drop}
use Rattle.toml.specs.View.{items_view}
use Rattle.osn_register_text.specs.Inside.{onto}
use Rattle.osn_register_text.specs.TerritoryText.{easters_from}
use Rattle.osn_register_text.proofs.territory_text.push_easters.Given as goal

-- The Easters that are left, onto the edits so far, are all Easters onto the edits before them.
abbrev pub invariant-loop-index : goal.invariant-loop-index
invariant-loop-index l =
    onto l.initial.edits.items
    (easters_from l.territory.code.now 1 (items_view l.easters))
    ≡ onto l.edits.items
    (easters_from l.territory.code.now (l.index + 1) (items_view (drop l.index l.easters)))
