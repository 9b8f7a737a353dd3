-- Runs: a filter that passes the days between two bounds, one run more, and what periods have in
-- order, the line has.
use Rattle.std.proofs.Common.{◌≡◌, ℕ, ◌+◌, ◌-◌, ◌<◌, ◌≤◌, Bool, true, List}
use Rattle.std.proofs.Common.{[], ◌∷◌, ◌++◌, filter, map, drop, length, refl, sym, ap, ◌∙◌, arith}
use Rattle.std.proofs.Math.Bool.{and-true}
use Rattle.std.specs.Ordering.{int_eq}
use Rattle.std.proofs.Common.{ℤ, None, Some, ◌&&◌}
use Rattle.std.proofs.lemmas.List.{append-nil, drop_all}
use Rattle.std.specs.List.{range_with_len, flat_map}
use Rattle.osn_days.specs.Rules.{Rules}
use Rattle.osn_days.specs.Line.{line}
use Rattle.osn_days.proofs.RangeFacts.{filter_same, filter_two}
use Rattle.osn_territory.specs.declared.regime.Regime.{Regime}
use Rattle.osn_territory.specs.declared.period.Period.{Period}
use Rattle.osn_territory.specs.declared.runs.Run.{Run}
use Rattle.osn_territory.specs.declared.runs.YearOrMonth.{YearOrMonth}
use Rattle.osn_territory.specs.Territory.{TerritoryModel, Covers, CoversLine, regime_at, periods_of}
use Rattle.osn_territory.specs.PeriodList.{start_of}
use Rattle.osn_territory.specs.Label.{local_label}
use Rattle.osn_territory.specs.Runs.{days_in, AreRunsAfter, AreRuns, days_of_year, days_of_month}
use Rattle.osn_territory.specs.RunKeys.{is_sought, sought_in, days_sought, LieBetween}
use Rattle.osn_territory.proofs.PeriodFacts.{starts_back}
use Rattle.osn_territory.proofs.RegimeFacts.{Agrees, agrees}

-- runs that end before a day end before a later one
pub lie_until : (a b c : ℕ) (rs : List Run) → LieBetween a b rs → b ≤ c → LieBetween a c rs
lie_until a b c [] lie less = omega (arith, lie)
lie_until a b c (r ∷ rs) lie less = (lie.0, lie.1, lie_until r.last b c rs lie.2 less)

-- one run more
pub lie_more : (a b c : ℕ) (rs : List Run) (r : Run) → LieBetween a b rs → b ≤ r.first →
    r.first ≤ r.last → r.last < c → LieBetween a c (rs ++ r ∷ [])
lie_more a b c [] r lie from some less = (omega (arith, lie), some, less)
lie_more a b c (q ∷ rs) r lie from some less =
    (lie.0, lie.1, lie_more q.last b c rs r lie.2 from some less)

runs_after : (a b : ℕ) (rs : List Run) → LieBetween a b rs → AreRunsAfter a rs
runs_after a b [] lie = tt
runs_after a b (r ∷ rs) lie = (lie.0, lie.1, runs_after r.last b rs lie.2)

pub are_runs : (b : ℕ) (rs : List Run) → LieBetween 0 b rs → AreRuns rs
are_runs b rs lie = runs_after 0 b rs lie

covers_until : (first last : ℕ) (ps : List Period) → Covers first last ps → first ≤ last + 1
covers_until first last [] covers = omega (arith, covers)
covers_until first last (p ∷ ps) covers =
    omega (arith, covers.0, covers.1, covers_until (p.last + 1) last ps covers.2)

-- period by period, or day by day
in_periods : (p : Rules) (s : YearOrMonth) (regime : ℕ → Regime) (first last : ℕ)
    (ps : List Period) → Covers first last ps → Agrees regime ps →
    flat_map (sought_in p s) ps ≡ filter (λ d. is_sought p s (regime d) d)
    (range_with_len first (last + 1 - first))
in_periods p s regime first last [] covers agree =
    let none : last + 1 - first ≡ 0 = omega (arith, covers) in rw none refl
in_periods p s regime first last (q ∷ qs) covers agree =
    let on : ℕ → Bool = λ d. is_sought p s (regime d) d in
    let here : sought_in p s q ≡ filter on (range_with_len q.first (q.last + 1 - q.first)) =
    filter_same (is_sought p s q.regime) on q.first (q.last + 1 - q.first) (λ d low high.
    ap (λ r. is_sought p s r d) (sym (agree.0 d low (omega arith)))) in
    let until = covers_until (q.last + 1) last qs covers.2 in
    sym (filter_two on q.first (last + 1) (q.last + 1) (sought_in p s q)
    (flat_map (sought_in p s) qs) (omega (arith, covers.1)) until (sym here)
    (sym (in_periods p s regime (q.last + 1) last qs covers.2 agree.1)))
    ∙ ap (λ n. filter on (range_with_len n (last + 1 - n))) covers.0

in_territory : (p : Rules) (s : YearOrMonth) (t : TerritoryModel) (ps : List Period) →
    ps ≡ periods_of p t → CoversLine p ps → flat_map (sought_in p s) ps ≡ days_sought p t s
unfolding days_sought line
in_territory p s t ps same covers =
    let es = t.exceptions in
    let whole : p.high + 1 - 1 ≡ p.high = omega arith in
    in_periods p s (regime_at (record { starts = map start_of ps; exceptions = es })) 1
    p.high ps covers (agrees es 1 p.high ps covers)
    ∙ rw whole refl
    ∙ ap (λ qs. filter (λ d. is_sought p s
    (regime_at (record { starts = map start_of qs; exceptions = es }) d) d)
    (range_with_len 1 p.high)) same
    ∙ ap (λ starts. filter (λ d. is_sought p s
    (regime_at (record { starts = starts; exceptions = es }) d) d) (range_with_len 1 p.high))
    (starts_back p.high t.starts)

-- all periods are done
pub all_sought : (p : Rules) (s : YearOrMonth) (t : TerritoryModel) (rs : List Run)
    (ps : List Period) (i : ℕ) → ps ≡ periods_of p t → CoversLine p ps → length ps ≤ i →
    days_in rs ++ flat_map (sought_in p s) (drop i ps) ≡ flat_map (sought_in p s) ps →
    days_in rs ≡ days_sought p t s
all_sought p s t rs ps i same covers all invariant =
    sym (append-nil (days_in rs))
    ∙ ap (λ qs. days_in rs ++ flat_map (sought_in p s) qs) (sym (drop_all i ps all))
    ∙ invariant
    ∙ in_territory p s t ps same covers

-- a year has no month of its own, and the month is that of the label
pub sought_year : (p : Rules) (t : TerritoryModel) (y : ℤ) →
    days_sought p t (record { year = y; month = None }) ≡ days_of_year p t y
unfolding days_sought days_of_year line
sought_year p t y =
    filter_same (λ d. int_eq (local_label p (regime_at t d) d).year y && true)
    (λ d. int_eq (local_label p (regime_at t d) d).year y) 1 p.high
    (λ d low high. and-true (int_eq (local_label p (regime_at t d) d).year y))

pub sought_month : (p : Rules) (t : TerritoryModel) (y : ℤ) (m : ℕ) →
    days_sought p t (record { year = y; month = Some m }) ≡ days_of_month p t y m
unfolding days_sought days_of_month
sought_month p t y m = refl
