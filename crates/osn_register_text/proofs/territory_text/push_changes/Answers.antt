use Rattle.std.proofs.Common.{◌≡◌, ◌+◌, ◌++◌, [], ◌∷◌, ℤ, Some, drop, ap, sym, ◌∙◌, rules}
use Rattle.std.proofs.Common.{to_z, of_z, w64}
use Rattle.toml.specs.View.{items_view, table_view}
use Rattle.osn_register.specs.declared.edit.Edit.TheVariants.{AddChange}
use Rattle.osn_register_text.specs.declared.key.Part.TheVariants.{Change}
use Rattle.osn_register_text.specs.Inside.{onto}
use Rattle.osn_register_text.specs.TerritoryText.{changes_from}
use Rattle.osn_register_text.proofs.ChangeLemmas.{changes_read}
use Rattle.osn_register_text.proofs.territory_text.push_changes.Goals as goal

pub loop-index-preserved : goal.loop-index-preserved
loop-index-preserved c =
    let l = c.loop-index in
    let code = c.args.territory.code.now in
    let vs = c.args.changes.now in
    let day = c.in_ok-day.day in
    let changed = c.in_ok-day.changed in
    let source = c.in_ok-day.source in
    let same : to_z w64 (of_z w64 day) ≡ day = search rules in
    let pushed : c.push_edit.new.edits.items
    ≡ l.edits.items ++ (Change (l.index + 1), AddChange code day changed source) ∷ [] =
    search rules in
    let rest = λ (before : ℤ). changes_from code (l.index + 1 + 1) (Some before) changed
    (items_view (drop (l.index + 1) vs)) in
    l.invariant
    ∙ changes_read code l.index l.before l.regime vs c.index-changes-index.result
    (table_view c.in_ok-table_of.field-0.now) day changed source l.edits.items
    c.loop-index-test.true c.index-changes-index.is c.in_ok-table_of.ensures c.in_ok-day.ensures
    ∙ ap (λ edits. onto edits (rest day)) (sym pushed)
    ∙ ap (λ before. onto c.push_edit.new.edits.items (rest before)) (sym same)
