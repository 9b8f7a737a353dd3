-- The periods of a territory still cover the line after a start is added, altered or dropped, and
-- the one that holds a day is found by its place.
use Rattle.std.proofs.Common.{◌≡◌, ℕ, ◌<◌, ◌≤◌, ◌+◌, ◌-◌, Bool, true, false, cond, not, nat_lt}
use Rattle.std.proofs.Common.{◌==◌, ◌||◌, if◌then◌else◌, Some, List, [], ◌∷◌, ◌++◌, length}
use Rattle.std.proofs.Common.{get_or, take, drop, map, filter, refl, sym, ap, subst, ◌∙◌, arith}
use Rattle.std.proofs.lemmas.Bool.{false≢true}
use Rattle.std.proofs.lemmas.Bool.Decides.{nat_tests}
use Rattle.std.specs.List.{list_any, HoldsAt}
use Rattle.osn_days.specs.Rules.{Rules}
use Rattle.osn_territory.specs.declared.regime.Regime.{Regime}
use Rattle.osn_territory.specs.declared.period.Period.{Period}
use Rattle.osn_territory.specs.Territory.{TerritoryModel, Covers, CoversLine, periods_from}
use Rattle.osn_territory.specs.Territory.{periods_of, last_before}
use Rattle.osn_territory.specs.Changes.{with_start, with_change, with_altered, without_change}
use Rattle.osn_territory.specs.Changes.{starts_on}
use Rattle.osn_territory.proofs.CoverFacts.{at_place, begins}
use Rattle.osn_register.specs.Answer.{holds, period_on}

abbrev Start : Type 0
Start = ℕ × Regime

abbrev alter : ℕ → Regime → Start → Start
alter d regime s = if s.0 == d then (d, regime) else s

abbrev is_other : ℕ → Start → Bool
is_other d s = not (s.0 == d)

abbrev is_on : ℕ → Start → Bool
is_on d s = s.0 == d

neither : (a b : Bool) → (a || b) ≡ false → (a ≡ false) × (b ≡ false)
neither true b h = absurd (false≢true (sym h))
neither false b h = (refl, h)

later : (d n : ℕ) → nat_lt d n ≡ false → (n == d) ≡ false → n < d
later d n low apart = grind (arith, nat_tests)

earlier : (d n : ℕ) → nat_lt d n ≡ true → d < n
earlier d n h = grind (arith, nat_tests)

same_day : (d n : ℕ) → (n == d) ≡ true → n ≡ d
same_day d n h = grind (arith, nat_tests)

-- one start more after another one
covers-insert : (high d : ℕ) (regime : Regime) (s : Start) (rest : List Start) →
    Covers s.0 high (periods_from high (s ∷ rest)) → s.0 < d → d ≤ high →
    list_any (is_on d) rest ≡ false → Covers s.0 high (periods_from high
    (s ∷ with_start d regime rest))
covers-insert high d regime s [] h low within none = (
  refl,
  omega arith,
  (omega arith, within, refl),
)
covers-insert high d regime s (q ∷ rest) h low within none =
    let more = covers-insert high d regime q rest in
    elim (nat_lt d q.0) as (λ b. nat_lt d q.0 ≡ b → Covers s.0 high
    (periods_from high (s ∷ cond b ((d, regime) ∷ q ∷ rest) (q ∷ with_start d regime rest)))) [
      | true ↦ λ e. let before = earlier d q.0 e in (
        refl,
        omega arith,
        (omega arith, omega arith, h.2),
      )
      | false ↦ λ e. let others = neither (is_on d q) (list_any (is_on d) rest) none in
          let behind = more (refl, h.2.1, h.2.2) (later d q.0 e others.0) within others.1 in
          (refl, h.1, (h.2.0, behind.1, behind.2))
    ] refl

last_before-map : (high : ℕ) (f : Start → Start) → ((s : Start) → (f s).0 ≡ s.0) →
    (rest : List Start) → last_before high (map f rest) ≡ last_before high rest
last_before-map high f same [] = refl
last_before-map high f same (q ∷ rest) = ap (λ n. n - 1) (same q)

-- the days of the starts alone decide what is covered
covers-map : (high first : ℕ) (f : Start → Start) → ((s : Start) → (f s).0 ≡ s.0) →
    (starts : List Start) → Covers first high (periods_from high starts) →
    Covers first high (periods_from high (map f starts))
covers-map high first f same [] h = h
covers-map high first f same (s ∷ rest) h =
    let last = last_before-map high f same rest in (
      same s ∙ h.0,
      omega (arith, same s, last, h.1),
      subst (λ n. Covers (n + 1) high (periods_from high (map f rest))) (sym last)
          (covers-map high (last_before high rest + 1) f same rest h.2),
    )

alter-day : (d : ℕ) (regime : Regime) (s : Start) → (alter d regime s).0 ≡ s.0
alter-day d regime s =
    elim (s.0 == d) as (λ b. (s.0 == d) ≡ b → (cond b (d, regime) s).0 ≡ s.0) [
      | true ↦ λ e. sym (same_day d s.0 e)
      | false ↦ λ e. refl
    ] refl

-- starts on one day dropped after another one
covers-drop : (high d : ℕ) (s : Start) (rest : List Start) →
    Covers s.0 high (periods_from high (s ∷ rest)) → Covers s.0 high
    (periods_from high (s ∷ filter (is_other d) rest))
covers-drop high d s [] h = h
covers-drop high d s (q ∷ rest) h =
    let behind = covers-drop high d q rest (refl, h.2.1, h.2.2) in
    let joined = covers-drop high d s rest (refl, omega arith, h.2.2) in
    elim (is_other d q) as (λ b. Covers s.0 high (periods_from high
    (s ∷ cond b (q ∷ filter (is_other d) rest) (filter (is_other d) rest)))) [
      | true ↦ (refl, h.1, (h.2.0, behind.1, behind.2))
      | false ↦ joined
    ]

not_earlier : (d n : ℕ) → n ≡ 1 → 1 < d → nat_lt d n ≡ false
not_earlier d n one low = grind (arith, nat_tests)

other_day : (d n : ℕ) → n ≡ 1 → 1 < d → (n == d) ≡ false
other_day d n one low = grind (arith, nat_tests)

pub covers-with_change : (p : Rules) (t : TerritoryModel) (d : ℕ) (regime : Regime) →
    CoversLine p (periods_of p t) → 1 < d → d ≤ p.high → starts_on t d ≡ false →
    CoversLine p (periods_of p (with_change t d regime))
covers-with_change p t d regime covers low within none = by t.starts covers none
  where
    by : (starts : List Start) → Covers 1 p.high (periods_from p.high starts) →
        list_any (is_on d) starts ≡ false → Covers 1 p.high
        (periods_from p.high (with_start d regime starts))
    by [] h none = absurd (omega (arith, h))
    by (s ∷ rest) h none =
        let others = neither (is_on d s) (list_any (is_on d) rest) none in
        let more = covers-insert p.high d regime s rest (refl, h.1, h.2) (omega (arith, h.0)) within
        others.1 in
        subst (λ b. Covers 1 p.high (periods_from p.high
        (cond b ((d, regime) ∷ s ∷ rest) (s ∷ with_start d regime rest))))
        (sym (not_earlier d s.0 h.0 low)) (h.0, more.1, more.2)

pub covers-with_altered : (p : Rules) (t : TerritoryModel) (d : ℕ) (regime : Regime) →
    CoversLine p (periods_of p t) → CoversLine p (periods_of p (with_altered t d regime))
covers-with_altered p t d regime covers = covers-map p.high 1 (alter d regime) (alter-day d regime)
    t.starts covers

pub covers-without_change : (p : Rules) (t : TerritoryModel) (d : ℕ) →
    CoversLine p (periods_of p t) → 1 < d → CoversLine p (periods_of p (without_change t d))
covers-without_change p t d covers low = by t.starts covers
  where
    by : (starts : List Start) → Covers 1 p.high (periods_from p.high starts) →
        Covers 1 p.high (periods_from p.high (filter (is_other d) starts))
    by [] h = h
    by (s ∷ rest) h =
        let more = covers-drop p.high d s rest (refl, h.1, h.2) in
        subst (λ b. Covers 1 p.high (periods_from p.high
        (cond (not b) (s ∷ filter (is_other d) rest) (filter (is_other d) rest))))
        (sym (other_day d s.0 h.0 low)) (h.0, more.1, more.2)

-- the period that holds a day is the first of a covering list to hold it
period_on-append : (front rest : List Period) (q : Period) (first last d : ℕ) →
    Covers first last (front ++ q ∷ rest) → q.first ≤ d → d ≤ q.last →
    period_on (front ++ q ∷ rest) d ≡ Some q
period_on-append [] rest q first last d covers low within =
    let here : holds d q ≡ true = grind (arith, nat_tests) in
    ap (λ b. cond b (Some q) (period_on rest d)) here
period_on-append (k ∷ front) rest q first last d covers low within =
    let before = begins front rest q (k.last + 1) last covers.2 in
    let past : holds d k ≡ false = grind (arith, nat_tests) in
    ap (λ b. cond b (Some k) (period_on (front ++ q ∷ rest) d)) past
    ∙ period_on-append front rest q (k.last + 1) last d covers.2 low within

pub period_on-place : (ps qs : List Period) (i first last d : ℕ) (q : Period) → qs ≡ ps →
    Covers first last qs → i < length ps → HoldsAt (λ r. (r.first ≤ d) × (d ≤ r.last)) ps i →
    q ≡ get_or qs i q → period_on ps d ≡ Some q
period_on-place ps qs i first last d q same covers within there is =
    let at : q ≡ get_or ps i q = is ∙ ap (λ l. get_or l i q) same in
    let held = subst (λ r. (r.first ≤ d) × (d ≤ r.last)) (sym at) (there q) in
    let split = at_place ps i q within at in
    ap (λ l. period_on l d) split
    ∙ period_on-append (take i ps) (drop (i + 1) ps) q first last d
    (subst (Covers first last) (same ∙ split) covers) held.0 held.1
