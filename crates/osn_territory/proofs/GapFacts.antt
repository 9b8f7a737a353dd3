-- A gap is that of a change, and no change is on day 1.
use Rattle.std.proofs.Common.{ℕ, ◌-◌, ◌<◌, ◌&&◌, nat_lt, List, filter, get_or}
use Rattle.std.proofs.lemmas.Bool.{and_parts}
use Rattle.std.proofs.lemmas.List.Elements.{filter_passes}
use Rattle.std.specs.List.{All}
use Rattle.std.proofs.lemmas.Bool.{ltb-true}
use Rattle.osn_days.specs.Rules.{Rules}
use Rattle.osn_territory.specs.declared.label.Label.{Label}
use Rattle.osn_territory.specs.Territory.{TerritoryModel, regime_at}
use Rattle.osn_territory.specs.LabelOrder.{is_in_gap, is_after, is_before}

pub later_gaps : (p : Rules) (t : TerritoryModel) (l : Label) (changes : List ℕ) →
    All (λ f. 1 < f) (filter (is_in_gap p t l) changes)
later_gaps p t l changes k d within =
    let f = get_or (filter (is_in_gap p t l) changes) k d in
    let passes = filter_passes (is_in_gap p t l) changes k d within in
    ltb-true 1 f (and_parts (nat_lt 1 f)
    (is_after p (regime_at t (f - 1)) l (f - 1) && is_before p (regime_at t f) l f) passes).0
