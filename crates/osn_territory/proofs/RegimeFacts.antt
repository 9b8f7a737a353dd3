-- The regime in force within a period is the period's.
use Rattle.std.proofs.Common.{◌≡◌, ℕ, ◌+◌, ◌<◌, ◌≤◌, List, [], ◌∷◌, ◌++◌, length, get_or, take}
use Rattle.std.proofs.Common.{drop, map, fold, nat_le, if◌then◌else◌, refl, sym, ap, subst, ◌∙◌}
use Rattle.std.proofs.Common.{arith}
use Rattle.std.proofs.lemmas.Bool.{le-leb, lt-leb}
use Rattle.std.specs.List.{HoldsAt}
use Rattle.osn_days.specs.Rules.{Rules}
use Rattle.osn_territory.specs.declared.regime.Regime.{Regime}
use Rattle.osn_territory.specs.declared.period.Period.{Period}
use Rattle.osn_territory.specs.Territory.{TerritoryModel, Covers, CoversLine, no_start, periods_of}
use Rattle.osn_territory.specs.Territory.{regime_at}
use Rattle.osn_territory.specs.PeriodList.{start_of}
use Rattle.osn_territory.proofs.CoverFacts.{at_place}
use Rattle.osn_territory.proofs.PeriodFacts.{starts_back}

-- the regime on a day if these starts follow one
abbrev regime_after : ℕ → Regime → List (ℕ × Regime) → Regime
regime_after d before starts = fold (λ r s. if nat_le s.0 d then s.1 else r) before starts

-- starts after a day change nothing on it
past : (first last : ℕ) (ps : List Period) (d : ℕ) (before : Regime) → Covers first last ps →
    d < first → regime_after d before (map start_of ps) ≡ before
past first last [] d before covers low = refl
past first last (p ∷ ps) d before covers low =
    ap (λ b. regime_after d (if b then p.regime else before) (map start_of ps))
    (lt-leb p.first d (omega (arith, covers.0)))
    ∙ past (p.last + 1) last ps d before covers.2 (omega (arith, covers.0, covers.1))

-- on a day of the first period
at_first : (first last : ℕ) (p : Period) (rest : List Period) (d : ℕ) (before : Regime) →
    Covers first last (p ∷ rest) → p.first ≤ d → d ≤ p.last →
    regime_after d before (map start_of (p ∷ rest)) ≡ p.regime
at_first first last p rest d before covers low high =
    ap (λ b. regime_after d (if b then p.regime else before) (map start_of rest))
    (le-leb p.first d low)
    ∙ past (p.last + 1) last rest d p.regime covers.2 (omega arith)

-- on a day of a period after others
at_period : (first last : ℕ) (front rest : List Period) (p : Period) (d : ℕ) (before : Regime) →
    Covers first last (front ++ p ∷ rest) → p.first ≤ d → d ≤ p.last →
    regime_after d before (map start_of (front ++ p ∷ rest)) ≡ p.regime
at_period first last [] rest p d before covers low high =
    at_first first last p rest d before covers low high
at_period first last (q ∷ front) rest p d before covers low high =
    at_period (q.last + 1) last front rest p d (if nat_le q.first d then q.regime else before)
    covers.2 low high

pub regime_in : (es : List (ℕ × ℕ)) (ps : List Period) (first last : ℕ) → Covers first last ps →
    (front rest : List Period) (p : Period) → ps ≡ front ++ p ∷ rest → (d : ℕ) → p.first ≤ d →
    d ≤ p.last → regime_at (record { starts = map start_of ps; exceptions = es }) d ≡ p.regime
regime_in es ps first last covers front rest p split d low high =
    ap (λ qs. regime_after d no_start (map start_of qs)) split
    ∙ at_period first last front rest p d no_start (rw split at covers) low high

-- each period has, on its days, the regime that is given for them
abbrev pub Agrees : (ℕ → Regime) → List Period → Type 0
Agrees regime [] = Unit {0}
Agrees regime (p ∷ ps) = ((d : ℕ) → p.first ≤ d → d ≤ p.last → regime d ≡ p.regime)
    × Agrees regime ps

agrees_after : (first last : ℕ) (ps : List Period) (before : ℕ → Regime) → Covers first last ps →
    Agrees (λ d. regime_after d (before d) (map start_of ps)) ps
agrees_after first last [] before covers = tt
agrees_after first last (p ∷ ps) before covers = (
  (λ d low high. at_first first last p ps d (before d) covers low high),
  agrees_after (p.last + 1) last ps (λ d. if nat_le p.first d then p.regime else before d) covers.2,
)

-- in a territory, each period has its regime on its days
pub agrees : (es : List (ℕ × ℕ)) (first last : ℕ) (ps : List Period) → Covers first last ps →
    Agrees (regime_at (record { starts = map start_of ps; exceptions = es })) ps
agrees es first last ps covers = agrees_after first last ps (λ d. no_start) covers

-- the regime in force on a day, by the place of the period that holds it
pub regime_found : (p : Rules) (t : TerritoryModel) (qs : List Period) (i : ℕ) (q : Period)
    (d : ℕ) → qs ≡ periods_of p t → CoversLine p qs → i < length (periods_of p t) →
    HoldsAt (λ r. (r.first ≤ d) × (d ≤ r.last)) (periods_of p t) i → q ≡ get_or qs i q →
    q.regime ≡ regime_at t d
regime_found p t qs i q d same covers within holds is =
    let ps = periods_of p t in
    let at : q ≡ get_or ps i q = is ∙ ap (λ l. get_or l i q) same in
    let held = subst (λ r. (r.first ≤ d) × (d ≤ r.last)) (sym at) (holds q) in
    sym (regime_in t.exceptions ps 1 p.high (subst (CoversLine p) same covers) (take i ps)
    (drop (i + 1) ps) q (at_place ps i q within at) d held.0 held.1)
    ∙ ap (λ starts. regime_at (record { starts = starts; exceptions = t.exceptions }) d)
    (starts_back p.high t.starts)
