-- What a change does to ascending starts, if the periods that follow from them cover the days.
use Rattle.std.proofs.Common.{◌≡◌, ℕ, inl, inr, ◌+◌, ◌<◌, ◌≤◌, Bool, true, false, suc, List, []}
use Rattle.std.proofs.Common.{◌∷◌, ◌++◌, length, get_or, take, drop, set, ◌==◌, ◌||◌, not}
use Rattle.std.proofs.Common.{if◌then◌else◌, map, filter, refl, ap, sym, subst, ◌∙◌, arith, eq-eqb}
use Rattle.std.proofs.Common.{eqb-true, zero, suc}
use Rattle.std.proofs.Math.Bool.{or-false}
use Rattle.std.specs.List.{HoldsAt, list_any, remove}
use Rattle.std.proofs.lemmas.List.{set_at, length-take-le}
use Rattle.std.proofs.lemmas.Bool.{lt-ltb, le-ltb, ne_eqb, eqb-false, cases_lt}
use Rattle.osn_territory.specs.declared.regime.Regime.{Regime}
use Rattle.osn_territory.specs.declared.period.Period.{Period}
use Rattle.osn_territory.specs.Territory.{Covers}
use Rattle.osn_territory.specs.Changes.{with_start}
use Rattle.osn_territory.specs.PeriodList.{start_of, has_start}
use Rattle.osn_territory.proofs.CoverFacts.{at_place, begins}

abbrev alter : ℕ → Regime → ℕ × Regime → ℕ × Regime
alter d regime s = if s.0 == d then (d, regime) else s

abbrev is_on : ℕ → ℕ × Regime → Bool
is_on d s = s.0 == d

abbrev is_off : ℕ → ℕ × Regime → Bool
is_off d s = not (s.0 == d)

-- starts after a day are on others

none_after : (ps : List Period) (first last d : ℕ) → Covers first last ps → d < first →
    list_any (is_on d) (map start_of ps) ≡ false
none_after [] first last d covers low = refl
none_after (p ∷ ps) first last d covers low =
    ap (λ b. b || list_any (is_on d) (map start_of ps))
    (ne_eqb p.first d (λ e. omega (arith, covers.0)))
    ∙ none_after ps (p.last + 1) last d covers.2 (omega (arith, covers.0, covers.1))

same_after : (ps : List Period) (first last d : ℕ) (regime : Regime) → Covers first last ps →
    d < first → map (alter d regime) (map start_of ps) ≡ map start_of ps
same_after [] first last d regime covers low = refl
same_after (p ∷ ps) first last d regime covers low =
    ap (λ b. (if b then (d, regime) else start_of p) ∷ map (alter d regime) (map start_of ps))
    (ne_eqb p.first d (λ e. omega (arith, covers.0)))
    ∙ ap (λ ss. start_of p ∷ ss) (same_after ps (p.last + 1) last d regime covers.2
    (omega (arith, covers.0, covers.1)))

starts_after : (ps : List Period) (first last d : ℕ) → Covers first last ps → d < first →
    filter (is_off d) (map start_of ps) ≡ map start_of ps
starts_after [] first last d covers low = refl
starts_after (p ∷ ps) first last d covers low =
    ap (λ b. if not b then start_of p ∷ filter (is_off d) (map start_of ps)
    else filter (is_off d) (map start_of ps)) (ne_eqb p.first d (λ e. omega (arith, covers.0)))
    ∙ ap (λ ss. start_of p ∷ ss) (starts_after ps (p.last + 1) last d covers.2 (omega (
      arith,
      covers.0,
      covers.1,
    )))

first_after : (ps : List Period) (first last d : ℕ) (regime : Regime) → Covers first last ps →
    d < first → with_start d regime (map start_of ps) ≡ (d, regime) ∷ map start_of ps
first_after [] first last d regime covers low = refl
first_after (p ∷ ps) first last d regime covers low =
    ap (λ b. if b then (d, regime) ∷ start_of p ∷ map start_of ps else start_of p
    ∷ with_start d regime (map start_of ps)) (lt-ltb d p.first (omega (arith, covers.0)))

-- whether a day is a start, by the period that holds it
pub starts_on-is : (front rest : List Period) (p : Period) (first last d : ℕ) →
    Covers first last (front ++ p ∷ rest) → p.first ≤ d → d ≤ p.last →
    list_any (is_on d) (map start_of (front ++ p ∷ rest)) ≡ (p.first == d)
starts_on-is [] rest p first last d covers low high =
    ap (λ b. (p.first == d) || b) (none_after rest (p.last + 1) last d covers.2 (omega arith))
    ∙ or-false (p.first == d)
starts_on-is (q ∷ front) rest p first last d covers low high =
    let later = begins front rest p (q.last + 1) last covers.2 in
    ap (λ b. b || list_any (is_on d) (map start_of (front ++ p ∷ rest)))
    (ne_eqb q.first d (λ e. omega (arith, later, covers.1)))
    ∙ starts_on-is front rest p (q.last + 1) last d covers.2 low high

-- another start, within a period
pub with_start-is : (front rest : List Period) (p before after : Period) (first last d : ℕ)
    (regime : Regime) → Covers first last (front ++ p ∷ rest) → p.first < d → d ≤ p.last →
    start_of before ≡ start_of p → start_of after ≡ (d, regime) →
    map start_of (front ++ before ∷ after ∷ rest) ≡ with_start d regime
    (map start_of (front ++ p ∷ rest))
with_start-is [] rest p before after first last d regime covers low high same new =
    ap (λ s. s ∷ start_of after ∷ map start_of rest) same
    ∙ ap (λ s. start_of p ∷ s ∷ map start_of rest) new
    ∙ ap (λ ss. start_of p ∷ ss) (sym (first_after rest (p.last + 1) last d regime covers.2 (omega
    arith)))
    ∙ ap (λ b. if b then (d, regime) ∷ start_of p ∷ map start_of rest else start_of p
    ∷ with_start d regime (map start_of rest)) (sym (le-ltb d p.first (omega arith)))
with_start-is (q ∷ front) rest p before after first last d regime covers low high same new =
    let later = begins front rest p (q.last + 1) last covers.2 in
    let starts = map start_of (front ++ p ∷ rest) in
    ap (λ ss. start_of q ∷ ss) (with_start-is front rest p before after (q.last + 1) last d regime
    covers.2 low high same new)
    ∙ ap (λ b. if b then (d, regime) ∷ start_of q ∷ starts else start_of q
    ∷ with_start d regime starts) (sym (le-ltb d q.first (omega (arith, later, covers.1))))

-- another regime from a start on
pub altered-is : (front rest : List Period) (p other : Period) (first last d : ℕ)
    (regime : Regime) → Covers first last (front ++ p ∷ rest) → p.first ≡ d →
    start_of other ≡ (d, regime) → map start_of (front ++ other ∷ rest) ≡ map (alter d regime)
    (map start_of (front ++ p ∷ rest))
altered-is [] rest p other first last d regime covers on new =
    ap (λ s. s ∷ map start_of rest) new
    ∙ ap (λ ss. (d, regime) ∷ ss) (sym (same_after rest (p.last + 1) last d regime covers.2 (omega
    (arith, covers.1))))
    ∙ ap (λ b. (if b then (d, regime) else start_of p) ∷ map (alter d regime) (map start_of rest))
    (sym (eq-eqb p.first d on))
altered-is (q ∷ front) rest p other first last d regime covers on new =
    let later = begins front rest p (q.last + 1) last covers.2 in
    ap (λ ss. start_of q ∷ ss) (altered-is front rest p other (q.last + 1) last d regime covers.2 on
    new)
    ∙ ap (λ b. (if b then (d, regime) else start_of q)
    ∷ map (alter d regime) (map start_of (front ++ p ∷ rest)))
    (sym (ne_eqb q.first d (λ e. omega (arith, later, covers.1))))

-- a start less
pub without-is : (front rest : List Period) (p : Period) (first last d : ℕ) →
    Covers first last (front ++ p ∷ rest) → p.first ≡ d →
    map start_of (front ++ rest) ≡ filter (is_off d) (map start_of (front ++ p ∷ rest))
without-is [] rest p first last d covers on =
    let starts = map start_of rest in
    sym (starts_after rest (p.last + 1) last d covers.2 (omega (arith, covers.1)))
    ∙ ap (λ b. if not b then start_of p ∷ filter (is_off d) starts else filter (is_off d) starts)
    (sym (eq-eqb p.first d on))
without-is (q ∷ front) rest p first last d covers on =
    let later = begins front rest p (q.last + 1) last covers.2 in
    let starts = filter (is_off d) (map start_of (front ++ p ∷ rest)) in
    ap (λ ss. start_of q ∷ ss) (without-is front rest p (q.last + 1) last d covers.2 on)
    ∙ ap (λ b. if not b then start_of q ∷ starts else starts)
    (sym (ne_eqb q.first d (λ e. omega (arith, later, covers.1))))

-- a list of periods without the one at a place, or with another there

module _ (ps : List Period) (i first last d : ℕ) (p : Period) (within : i < length ps)
    (is : p ≡ get_or ps i p) (covers : Covers first last ps) where
  split : ps ≡ take i ps ++ p ∷ drop (i + 1) ps
  split = at_place ps i p within is

  covers_split_list : Covers first last (take i ps ++ p ∷ drop (i + 1) ps)
  covers_split_list = subst (Covers first last) split covers

  pub starts_on-at : p.first ≤ d → d ≤ p.last → list_any (is_on d) (map start_of ps) ≡ (p.first ==
      d)
  starts_on-at low high =
      ap (λ qs. list_any (is_on d) (map start_of qs)) split
      ∙ starts_on-is (take i ps) (drop (i + 1) ps) p first last d covers_split_list low high

  pub no_sooner-at : first ≤ p.first
  no_sooner-at = begins (take i ps) (drop (i + 1) ps) p first last covers_split_list

  pub altered-at : (other : Period) (regime : Regime) → p.first ≡ d → start_of other ≡ (d, regime) →
      map start_of (set ps i other) ≡ map (alter d regime) (map start_of ps)
  altered-at other regime on new =
      ap (λ qs. map start_of (set qs i other)) split
      ∙ ap (map start_of) (set_at (take i ps) p (drop (i + 1) ps) other i
      (length-take-le i ps (omega arith)))
      ∙ altered-is (take i ps) (drop (i + 1) ps) p other first last d regime covers_split_list on
      new
      ∙ ap (λ qs. map (alter d regime) (map start_of qs)) (sym split)

  pub without-at : p.first ≡ d → map start_of (remove ps i) ≡ filter (is_off d) (map start_of ps)
  without-at on =
      let next : suc i ≡ i + 1 = omega arith in
      ap (λ n. map start_of (take i ps ++ drop n ps)) next
      ∙ without-is (take i ps) (drop (i + 1) ps) p first last d covers_split_list on
      ∙ ap (λ qs. filter (is_off d) (map start_of qs)) (sym split)

-- the period at the place that was found for a day
module _ (ps : List Period) (i last d : ℕ) (p : Period) (covers : Covers 1 last ps)
    (within : i < length ps) (holds : HoldsAt (λ q. (q.first ≤ d) × (d ≤ q.last)) ps i)
    (is : p ≡ get_or ps i p) where
  pub found_holds : (p.first ≤ d) × (d ≤ p.last)
  found_holds = subst (λ q. (q.first ≤ d) × (d ≤ q.last)) (sym is) (holds p)

  pub found_start : has_start d ps ≡ (p.first == d)
  found_start = starts_on-at ps i 1 last d p within is covers found_holds.0 found_holds.1

  -- it starts on the day if a period does
  pub found_on_start : has_start d ps ≡ true → p.first ≡ d
  found_on_start start = eqb-true p.first d (sym found_start ∙ start)

  -- and before it if none does
  pub found_apart : has_start d ps ≡ false → p.first < d
  found_apart apart =
      let off = eqb-false p.first d (sym found_start ∙ apart) in
      elim (cases_lt p.first d) [
        | inl lt ↦ lt
        | inr ge ↦ absurd (off (omega (arith, found_holds.0)))
      ]

-- on a start that is not day 1 it is not the first one
pub later_place : (ps : List Period) (i last d : ℕ) → Covers 1 last ps → 0 < length ps →
    HoldsAt (λ q. q.first ≡ d) ps i → 1 < d → 0 < i
later_place [] i last d covers some starts later = absurd (omega arith)
later_place (q ∷ ps) zero last d covers some starts later =
    let opening : q.first ≡ d = starts q in
    absurd (omega (arith, later, opening, covers.0))
later_place (q ∷ ps) (suc i) last d covers some starts later = omega arith
