use Rattle.std.proofs.Common.{◌≡◌, ap, sym, ◌∙◌}
use Rattle.std.proofs.lemmas.List.Elements.{filter_passes, All-same}
use Rattle.std.specs.List.{All}
use Rattle.osn_days.specs.Rules.{Rules, newest_rules}
use Rattle.osn_days.specs.Line.{line}
use Rattle.osn_territory.specs.declared.label.Label.{Label}
use Rattle.osn_territory.specs.Label.{local_label, same_label}
use Rattle.osn_territory.specs.Territory.{TerritoryModel, regime_at, reading}
use Rattle.osn_territory.proofs.LabelFacts.{AreParts, same_label_decides}
use Rattle.osn_register.proofs.territory_answer.reading.Goals as goal

labels_equal : (a b : Label) → AreParts a b → b ≡ a
labels_equal a b parts =
    ap (λ y. let l : Label = record { year = y; month = b.month; day = b.day } in l) (sym parts.0)
    ∙ ap (λ m. let l : Label = record { year = a.year; month = m; day = b.day } in l)
    (sym parts.1.0)
    ∙ ap (λ d. let l : Label = record { year = a.year; month = a.month; day = d } in l)
    (sym parts.1.1)

-- each day of a reading has the label
reading-labels : (p : Rules) (t : TerritoryModel) (label : Label) →
    All (λ d. label ≡ local_label p (regime_at t d) d) (reading p t label)
unfolding reading
reading-labels p t label k d within =
    labels_equal _ label ((same_label_decides _ label).0
    (filter_passes (λ d. same_label (local_label p (regime_at t d) d) label) (line p) k d within))

pub read_days-requires : goal.read_days-requires
read_days-requires c =
    let t = c.args.territory.now in
    All-same (λ d. c.args.label ≡ local_label newest_rules (regime_at t d) d) c.as_slice.result.now
    (reading newest_rules t c.args.label)
    (c.as_slice.ensures.value ∙ c.in_ok-days.ensures.read)
    (reading-labels newest_rules t c.args.label)
