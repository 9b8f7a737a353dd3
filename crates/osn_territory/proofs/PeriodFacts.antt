-- Periods that cover the line are those of their starts.
use Rattle.std.proofs.Common.{◌≡◌, ℕ, ◌+◌, List, [], ◌∷◌, map, refl, sym, ap, ◌∙◌, arith}
use Rattle.osn_days.specs.Rules.{Rules}
use Rattle.osn_territory.specs.declared.regime.Regime.{Regime}
use Rattle.osn_territory.specs.declared.period.Period.{Period}
use Rattle.osn_territory.specs.Territory.{TerritoryModel, Covers, last_before, periods_from}
use Rattle.osn_territory.specs.Territory.{periods_of}
use Rattle.osn_territory.specs.PeriodList.{start_of}

-- the last day of a period that these follow
last_is : (last : ℕ) (p : Period) (ps : List Period) → Covers (p.last + 1) last ps →
    last_before last (map start_of ps) ≡ p.last
last_is last p [] covers = omega (arith, covers)
last_is last p (q ∷ qs) covers = omega (arith, covers.0)

pub periods_back : (first last : ℕ) (ps : List Period) → Covers first last ps →
    periods_from last (map start_of ps) ≡ ps
periods_back first last [] covers = refl
periods_back first last (p ∷ ps) covers =
    ap (λ n. record { first = p.first; last = n; regime = p.regime }
    ∷ periods_from last (map start_of ps)) (last_is last p ps covers.2)
    ∙ ap (λ qs. p ∷ qs) (periods_back (p.last + 1) last ps covers.2)

-- the periods of a territory are those that it keeps
pub periods_kept : (es : List (ℕ × ℕ)) (p : Rules) (t : TerritoryModel) (items ps : List Period) →
    items ≡ ps → record { starts = map start_of ps; exceptions = es } ≡ t → Covers 1 p.high ps →
    items ≡ periods_of p t
periods_kept es p t items ps same view covers = same ∙ sym (periods_back 1 p.high ps covers)
    ∙ ap (periods_of p) view

-- and have its starts
pub starts_back : (high : ℕ) (starts : List (ℕ × Regime)) →
    map start_of (periods_from high starts) ≡ starts
starts_back high [] = refl
starts_back high (s ∷ rest) = ap (λ ss. s ∷ ss) (starts_back high rest)
