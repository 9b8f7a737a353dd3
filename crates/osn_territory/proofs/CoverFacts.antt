-- Periods that cover the days from a first to a last: one is found, is split, or goes on through
-- the next.
use Rattle.std.proofs.Common.{mul_assoc, ◌≡◌, ℕ, zero, suc, ◌+◌, ◌-◌, ◌*◌, ◌^◌, ◌<◌, ◌≤◌, List, []}
use Rattle.std.proofs.Common.{◌∷◌, ◌++◌, length, get_or, take, drop, set, sym, ap, subst, ◌∙◌}
use Rattle.std.proofs.Common.{arith}
use Rattle.std.proofs.Math.Nat.{pow-suc, mul-le-mul_left}
use Rattle.std.specs.List.{HoldsAt, insert, remove}
use Rattle.std.proofs.lemmas.List.{take-append-drop, drop_more, set_at, length-take-le}
use Rattle.std.proofs.lemmas.List.Edits.{insert-append_right, remove-append_right}
use Rattle.osn_territory.specs.declared.period.Period.{Period}
use Rattle.osn_territory.specs.Territory.{Covers}

-- a list at one of its places
pub at_place : (ps : List Period) (i : ℕ) (p : Period) → i < length ps → p ≡ get_or ps i p →
    ps ≡ take i ps ++ p ∷ drop (i + 1) ps
at_place ps i p within is =
    sym (take-append-drop i ps)
    ∙ ap (λ qs. take i ps ++ qs) (drop_more ps i p within)
    ∙ ap (λ q. take i ps ++ q ∷ drop (i + 1) ps) (sym is)

-- what holds of the period at a place of a slice holds of the one that was read there
pub read_at : (P : Period → Type 0) (slice ps : List Period) (i : ℕ) (p : Period) → slice ≡ ps →
    p ≡ get_or ps i p → HoldsAt P slice i → P p
read_at P slice ps i p same is holds =
    subst P (sym is) (subst (λ l. P (get_or l i p)) same (holds p))

-- a list at a place and the next one
pub at_places : (ps : List Period) (i j : ℕ) (p q : Period) → i + 1 ≡ j → j < length ps →
    p ≡ get_or ps i p → q ≡ get_or ps j q → ps ≡ take i ps ++ p ∷ q ∷ drop (j + 1) ps
at_places ps i j p q next within first second =
    at_place ps i p (omega arith) first
    ∙ ap (λ k. take i ps ++ p ∷ drop k ps) next
    ∙ ap (λ qs. take i ps ++ p ∷ qs) (drop_more ps j q within)
    ∙ ap (λ x. take i ps ++ p ∷ x ∷ drop (j + 1) ps) (sym second)

-- an element at a place and a new one after it
pub set-insert : (front rest : List Period) (p before after : Period) (i : ℕ) → length front ≡ i →
    set (insert (front ++ p ∷ rest) (i + 1) after) i before ≡ front ++ before ∷ after ∷ rest
set-insert front rest p before after i at =
    let one : i + 1 - i ≡ 1 = omega arith in
    ap (λ ps. set ps i before) (insert-append_right front (p ∷ rest) i (i + 1) after at
    (omega arith))
    ∙ ap (λ n. set (front ++ insert (p ∷ rest) n after) i before) one
    ∙ set_at front p (after ∷ rest) before i at

-- an element at a place, the one after it removed
pub set-remove : (front rest : List Period) (p q joined : Period) (i j : ℕ) → length front ≡ i →
    i + 1 ≡ j → set (remove (front ++ p ∷ q ∷ rest) j) i joined ≡ front ++ joined ∷ rest
set-remove front rest p q joined i j at next =
    let one : j - i ≡ 1 = omega arith in
    ap (λ ps. set ps i joined) (remove-append_right front (p ∷ q ∷ rest) i j at (omega arith))
    ∙ ap (λ n. set (front ++ remove (p ∷ q ∷ rest) n) i joined) one
    ∙ set_at front p rest joined i at

-- no period begins before the first day
pub begins : (front rest : List Period) (p : Period) (first last : ℕ) →
    Covers first last (front ++ p ∷ rest) → first ≤ p.first
begins [] rest p first last covers = omega (arith, covers.0)
begins (q ∷ front) rest p first last covers =
    let later : q.last + 1 ≤ p.first = begins front rest p (q.last + 1) last covers.2 in
    omega (arith, covers.0, covers.1)

-- a period is split
pub covers_split : (front rest : List Period) (p before after : Period) (first last : ℕ) →
    before.first ≡ p.first → before.first ≤ before.last → before.last + 1 ≡ after.first →
    after.first ≤ after.last → after.last ≡ p.last → Covers first last (front ++ p ∷ rest) →
    Covers first last (front ++ before ∷ after ∷ rest)
covers_split [] rest p before after first last begin some meet more end covers = (
  begin ∙ covers.0,
  some,
  (
    sym meet,
    more,
    subst (λ n. Covers (n + 1) last rest) (sym end)
        covers.2,
  ),
)
covers_split (q ∷ front) rest p before after first last begin some meet more end covers = (
  covers.0,
  covers.1,
  covers_split front rest p before after (q.last + 1) last begin some meet
      more end covers.2,
)

-- a period goes on through the next
pub covers_join : (front rest : List Period) (p q joined : Period) (first last : ℕ) →
    joined.first ≡ p.first → joined.last ≡ q.last → Covers first last (front ++ p ∷ q ∷ rest) →
    Covers first last (front ++ joined ∷ rest)
covers_join [] rest p q joined first last begin end covers =
    let next = covers.2 in (
      begin ∙ covers.0,
      omega (arith, covers.1, next.0, next.1),
      subst (λ n. Covers (n + 1) last rest) (sym end) next.2,
    )
covers_join (r ∷ front) rest p q joined first last begin end covers =
    (covers.0, covers.1, covers_join front rest p q joined (r.last + 1) last begin end covers.2)

-- a period keeps its days
pub covers_same : (front rest : List Period) (p other : Period) (first last : ℕ) →
    other.first ≡ p.first → other.last ≡ p.last → Covers first last (front ++ p ∷ rest) →
    Covers first last (front ++ other ∷ rest)
covers_same [] rest p other first last begin end covers = (
  begin ∙ covers.0,
  omega (arith, covers.1),
  subst (λ n. Covers (n + 1) last rest) (sym end) covers.2,
)
covers_same (q ∷ front) rest p other first last begin end covers =
    (covers.0, covers.1, covers_same front rest p other (q.last + 1) last begin end covers.2)

-- a period at a place of the list keeps its days

pub covers_set : (ps : List Period) (i first last : ℕ) (p other : Period) → i < length ps →
    p ≡ get_or ps i p → other.first ≡ p.first → other.last ≡ p.last → Covers first last ps →
    Covers first last (set ps i other)
covers_set ps i first last p other within is begin end covers =
    let split = at_place ps i p within is in
    let front = take i ps in
    let rest = drop (i + 1) ps in
    let whole = ap (λ qs. set qs i other) split
    ∙ set_at front p rest other i (length-take-le i ps (omega arith)) in
    subst (Covers first last) (sym whole) (covers_same front rest p other first last begin end
    (subst (Covers first last) split covers))

-- no more periods than days
pub no_more_than_days : (ps : List Period) (first last : ℕ) → Covers first last ps →
    length ps + first ≤ last + 1
no_more_than_days [] first last covers = omega (arith, covers)
no_more_than_days (p ∷ ps) first last covers =
    let more = no_more_than_days ps (p.last + 1) last covers.2 in
    omega (arith, more, covers.0, covers.1)

-- a day before the next period begins, or on the line if no period follows, is before a period's
-- end
pub not_after : (ps : List Period) (i first last d : ℕ) → Covers first last ps → i < length ps →
    d ≤ last → ((q : Period) → suc i < length ps → d < (get_or ps (suc i) q).first) → (p : Period) →
    d ≤ (get_or ps i p).last
not_after [] i first last d covers within on next p = absurd (omega arith)
not_after (r ∷ []) zero first last d covers within on next p = omega (arith, on, covers.2)
not_after (r ∷ s ∷ ps) zero first last d covers within on next p =
    let before : d < s.first = next p (omega arith) in omega (arith, before, covers.2.0)
not_after (r ∷ []) (suc i) first last d covers within on next p = absurd (omega arith)
not_after (r ∷ s ∷ ps) (suc i) first last d covers within on next p =
    not_after (s ∷ ps) i (r.last + 1) last d covers.2 (omega arith) on (λ q more.
    next q (omega arith)) p

-- half as many are left after a test
pub halved : (tested left less n : ℕ) → 2 ^ tested * left < n → 2 * less ≤ left →
    2 ^ (tested + 1) * less < n
halved tested left less n until half =
    let next : tested + 1 ≡ suc tested = omega arith in
    let double : 2 ^ (tested + 1) ≡ 2 ^ tested * 2 = ap (λ k. 2 ^ k) next ∙ pow-suc 2 tested in
    let same : 2 ^ (tested + 1) * less ≡ 2 ^ tested * (2 * less) = ap (λ k. k * less) double
    ∙ mul_assoc (2 ^ tested) 2 less in
    omega (arith, until, same, mul-le-mul_left (2 ^ tested) half)

pub one_more_test : (tested left n : ℕ) → 2 ^ tested * left < n → 1 ≤ left →
    2 ^ (tested + 1) ≤ 2 * n
one_more_test tested left n until some =
    let next : tested + 1 ≡ suc tested = omega arith in
    let double : 2 ^ (tested + 1) ≡ 2 ^ tested * 2 = ap (λ k. 2 ^ k) next ∙ pow-suc 2 tested in
    let one : 2 ^ tested * 1 ≡ 2 ^ tested = omega arith in
    omega (arith, until, double, one, mul-le-mul_left (2 ^ tested) some)

-- a period is of the days that are covered
pub within_at : (ps : List Period) (i first last : ℕ) (p : Period) → Covers first last ps →
    i < length ps → p ≡ get_or ps i p → (first ≤ p.first) × (p.first ≤ p.last) × (p.last ≤ last)
within_at [] i first last p covers within is = absurd (omega arith)
within_at (q ∷ ps) zero first last p covers within is =
    let until = no_more_than_days ps (q.last + 1) last covers.2 in
    let begin = ap (λ (r : Period). r.first) is in
    let end = ap (λ (r : Period). r.last) is in
    (omega (arith, begin, covers.0), omega (arith, begin, end, covers.1), omega (arith, end, until))
within_at (q ∷ ps) (suc i) first last p covers within is =
    let later = within_at ps i (q.last + 1) last p covers.2 (omega arith) is in
    (omega (arith, later.0, covers.0, covers.1), later.1, later.2)

-- a period after another starts after the first day
pub later_at : (ps : List Period) (i first last : ℕ) (p : Period) → Covers first last ps → 0 < i →
    i < length ps → p ≡ get_or ps i p → (first < p.first) × (p.first ≤ last)
later_at [] i first last p covers later within is = absurd (omega arith)
later_at (q ∷ ps) zero first last p covers later within is = absurd (omega arith)
later_at (q ∷ ps) (suc i) first last p covers later within is =
    let there = within_at ps i (q.last + 1) last p covers.2 (omega arith) is in
    (omega (arith, there.0, covers.0, covers.1), omega (arith, there.1, there.2))
