-- The periods of a territory by the Julian calendar: they cover the same days from the same starts.
use Rattle.std.proofs.Common.{◌≡◌, ℕ, List, [], ◌∷◌, map, ◌+◌, refl, ap, sym, subst, ◌∙◌}
use Rattle.osn_days.specs.Rules.{newest_rules}
use Rattle.osn_territory.specs.declared.period.Period.{Period}
use Rattle.osn_territory.specs.JulianCalendar.{by_julian, period_in_julian}
use Rattle.osn_territory.specs.PeriodList.{start_of}
use Rattle.osn_territory.specs.Territory.{Covers, CoversLine}

covers_from : (ps : List Period) (first last : ℕ) → Covers first last ps
    → Covers first last (map period_in_julian ps)
covers_from [] first last covers = covers
covers_from (p ∷ ps) first last covers =
    (covers.0, covers.1, covers_from ps (p.last + 1) last covers.2)

-- periods in the Julian calendar cover the line
pub julian_covers : (ps : List Period) → CoversLine newest_rules ps
    → CoversLine newest_rules (map period_in_julian ps)
julian_covers ps covers = covers_from ps 1 newest_rules.high covers

-- periods in the Julian calendar start on the same days
pub julian_starts : (ps : List Period) → map start_of (map period_in_julian ps)
    ≡ map (λ s. (s.0, by_julian s.1)) (map start_of ps)
julian_starts [] = refl
julian_starts (p ∷ ps) = ap (λ ss. (p.first, by_julian p.regime) ∷ ss) (julian_starts ps)

-- periods that are known to be these cover the line
pub covers_of : (items slice ps : List Period) → items ≡ map period_in_julian slice → slice ≡ ps
    → CoversLine newest_rules ps → CoversLine newest_rules items
covers_of items slice ps is same covers =
    subst (CoversLine newest_rules) (sym (is ∙ ap (map period_in_julian) same))
    (julian_covers ps covers)

pub starts_of : (items slice ps : List Period) → items ≡ map period_in_julian slice → slice ≡ ps
    → map start_of items ≡ map (λ s. (s.0, by_julian s.1)) (map start_of ps)
starts_of items slice ps is same =
    ap (map start_of) (is ∙ ap (map period_in_julian) same) ∙ julian_starts ps
