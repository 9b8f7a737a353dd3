-- What is skipped at a change, by the days of the two regimes alone: for any number of days that a
-- label may have.
use Rattle.std.proofs.Common.{◌≡◌, ℕ, ◌+◌, ◌-◌, ◌<◌, ◌≤◌, Bool, true, false, not, ◌&&◌, ◌||◌}
use Rattle.std.proofs.Common.{nat_le, nat_lt, inl, inr, if◌then◌else◌, List, [], ◌∷◌, ◌++◌, map}
use Rattle.std.proofs.Common.{filter, drop, length, get_or, refl, sym, ap, ◌∙◌, arith}
use Rattle.std.proofs.lemmas.Bool.{and_parts, and_from, or_cases, or_left, or_right, leb-true}
use Rattle.std.proofs.lemmas.Bool.{le-leb, cases_lt}
use Rattle.std.proofs.lemmas.List.{append-nil, append_assoc, drop_more, length-drop}
use Rattle.std.specs.List.{range_with_len, list_any}
use Rattle.osn_days.specs.Rules.{Rules}
use Rattle.osn_days.specs.Line.{line}
use Rattle.osn_days.proofs.RangeFacts.{any_in, any_from}
use Rattle.osn_territory.specs.declared.label.Label.{Label}
use Rattle.osn_territory.specs.declared.period.Period.{Period}
use Rattle.osn_territory.specs.Label.{days_with_label}
use Rattle.osn_territory.specs.Territory.{TerritoryModel, Covers, regime_at, reading, is_empty}
use Rattle.osn_territory.specs.Territory.{is_skipped_at, skipped_after, skipped_among, skipped}
use Rattle.osn_territory.specs.PeriodList.{start_of, is_held}
use Rattle.osn_territory.specs.LabelSearch.{has_label, is_skipped_by_days}
use Rattle.osn_territory.proofs.PeriodFacts.{periods_back}
use Rattle.osn_territory.proofs.RegimeFacts.{Agrees, agrees}

same_bool : (a b : Bool) → (a ≡ true → b ≡ true) → (b ≡ true → a ≡ true) → a ≡ b
same_bool true b to from = sym (to refl)
same_bool false true to from = from refl
same_bool false false to from = refl

held : (q : Period) (d : ℕ) → q.first ≤ d → d ≤ q.last → is_held q d ≡ true
held q d low high = and_from (nat_le q.first d) (nat_le d q.last) (le-leb q.first d low)
    (le-leb d q.last high)

is_in : (low high d : ℕ) → (nat_le low d && nat_le d high) ≡ true → (low ≤ d) × (d ≤ high)
is_in low high d is =
    let parts = and_parts (nat_le low d) (nat_le d high) is in
    (leb-true low d parts.0, leb-true d high parts.1)

-- a day of the two periods is read if it has the label under the regime of its own one
read_there : (f g h : ℕ → Bool) (n : ℕ) (old new : Period) → new.first ≡ old.last + 1 →
    old.first ≤ old.last → new.first ≤ new.last →
    ((d : ℕ) → old.first ≤ d → d ≤ old.last → h d ≡ f d) →
    ((d : ℕ) → new.first ≤ d → d ≤ new.last → h d ≡ g d) →
    list_any (λ d. nat_le old.first d && nat_le d new.last) (filter h (range_with_len 1 n))
    ≡ (list_any (is_held old) (filter f (range_with_len 1 n))
    || list_any (is_held new) (filter g (range_with_len 1 n)))
read_there f g h n old new next some_old some_new in_old in_new =
    let both : ℕ → Bool = λ d. nat_le old.first d && nat_le d new.last in
    let olds = filter f (range_with_len 1 n) in
    let news = filter g (range_with_len 1 n) in
    same_bool (list_any both (filter h (range_with_len 1 n))) (list_any (is_held old) olds
    || list_any (is_held new) news)
    (λ read.
    let e = any_in both h 1 n read in
    let bounds = is_in old.first new.last e.0 e.1.tested in
    elim (cases_lt e.0 new.first) [
      | inl lt ↦ or_left (list_any (is_held old) olds) (list_any (is_held new) news)
          (any_from (is_held old) f 1 n e.0 e.1.low e.1.high
          (sym (in_old e.0 bounds.0 (omega (arith, lt, next))) ∙ e.1.passes)
          (held old e.0 bounds.0 (omega (arith, lt, next))))
      | inr ge ↦ or_right (list_any (is_held old) olds) (list_any (is_held new) news)
          (any_from (is_held new) g 1 n e.0 e.1.low e.1.high (sym (in_new e.0 ge bounds.1)
          ∙ e.1.passes) (held new e.0 ge bounds.1))
    ])
    (λ one. elim (or_cases (list_any (is_held old) olds) (list_any (is_held new) news) one) [
      | inl in_first ↦
          let e = any_in (is_held old) f 1 n in_first in
          let bounds = is_in old.first old.last e.0 e.1.tested in
          any_from both h 1 n e.0 e.1.low e.1.high (in_old e.0 bounds.0 bounds.1 ∙ e.1.passes)
          (and_from (nat_le old.first e.0) (nat_le e.0 new.last) (le-leb old.first e.0 bounds.0)
          (le-leb e.0 new.last (omega (arith, bounds.1, next, some_new))))
      | inr in_second ↦
          let e = any_in (is_held new) g 1 n in_second in
          let bounds = is_in new.first new.last e.0 e.1.tested in
          any_from both h 1 n e.0 e.1.low e.1.high (in_new e.0 bounds.0 bounds.1 ∙ e.1.passes)
          (and_from (nat_le old.first e.0) (nat_le e.0 new.last)
          (le-leb old.first e.0 (omega (arith, bounds.0, next, some_old)))
          (le-leb e.0 new.last bounds.1))
    ])

-- the test of two neighbours by the days of their regimes
abbrev pub is_named_at : Rules → Label → Period → Period → Bool
is_named_at p label old new = is_skipped_by_days old new (days_with_label p old.regime label)
    (days_with_label p new.regime label)

is_named_skipped : (p : Rules) (t : TerritoryModel) (label : Label) (old new : Period) →
    new.first ≡ old.last + 1 → old.first ≤ old.last → new.first ≤ new.last →
    ((d : ℕ) → old.first ≤ d → d ≤ old.last → regime_at t d ≡ old.regime) →
    ((d : ℕ) → new.first ≤ d → d ≤ new.last → regime_at t d ≡ new.regime) →
    is_skipped_at p t label old new ≡ is_named_at p label old new
unfolding days_with_label reading line
is_named_skipped p t label old new next some_old some_new in_old in_new =
    let olds = filter (has_label p label old.regime) (range_with_len 1 p.high) in
    let news = filter (has_label p label new.regime) (range_with_len 1 p.high) in
    ap (λ read. (list_any (λ d. nat_le new.first d) olds || is_empty olds)
    && ((list_any (λ d. nat_lt d new.first) news || is_empty news)
    && (not (is_empty olds && is_empty news) && not read)))
    (read_there (has_label p label old.regime) (has_label p label new.regime) (λ d.
    has_label p label (regime_at t d) d) p.high old new next some_old some_new
    (λ d low high. ap (λ r. has_label p label r d) (in_old d low high))
    (λ d low high. ap (λ r. has_label p label r d) (in_new d low high)))

abbrev pub named_after : Rules → Label → Period → List Period → List ℕ
named_after p label old [] = []
named_after p label old (new ∷ rest) =
    if is_named_at p label old new then new.first ∷ named_after p label new rest
    else named_after p label new rest

-- the changes that are named, period by period
abbrev pub named_among : Rules → Label → List Period → List ℕ
named_among p label [] = []
named_among p label (opening ∷ rest) = named_after p label opening rest

named_skipped_after : (p : Rules) (t : TerritoryModel) (label : Label) (first last : ℕ)
    (old : Period) (rest : List Period) → Covers first last (old ∷ rest) →
    Agrees (regime_at t) (old ∷ rest) → named_after p label old rest ≡ skipped_after p t label old
    rest
named_skipped_after p t label first last old [] covers agree = refl
named_skipped_after p t label first last old (new ∷ rest) covers agree =
    ap (λ b. if b then new.first ∷ named_after p label new rest else named_after p label new rest)
    (sym (is_named_skipped p t label old new covers.2.0 covers.1 covers.2.1 agree.0 agree.1.0))
    ∙ ap (λ ds. if is_skipped_at p t label old new then new.first ∷ ds else ds)
    (named_skipped_after p t label (old.last + 1) last new rest covers.2 agree.1)

named_skipped_among : (p : Rules) (t : TerritoryModel) (label : Label) (ps : List Period) →
    Covers 1 p.high ps → Agrees (regime_at t) ps → named_among p label ps ≡ skipped_among p t label
    ps
named_skipped_among p t label [] covers agree = refl
named_skipped_among p t label (opening ∷ rest) covers agree =
    named_skipped_after p t label 1 p.high opening rest covers agree

pub named_skipped : (es : List (ℕ × ℕ)) (p : Rules) (label : Label) (ps : List Period) →
    Covers 1 p.high ps → named_among p label ps ≡ skipped p
    (record { starts = map start_of ps; exceptions = es }) label
named_skipped es p label ps covers =
    named_skipped_among p (record { starts = map start_of ps; exceptions = es }) label ps covers
    (agrees es 1 p.high ps covers)
    ∙ ap (skipped_among p (record { starts = map start_of ps; exceptions = es }) label)
    (sym (periods_back 1 p.high ps covers))

step_named : (p : Rules) (label : Label) (ps : List Period) (i : ℕ) (old new d e : Period) →
    1 ≤ i → i < length ps → get_or ps (i - 1) d ≡ old → get_or ps i e ≡ new →
    named_among p label (drop (i - 1) ps) ≡ (if is_named_at p label old new then new.first
    ∷ named_among p label (drop i ps) else named_among p label (drop i ps))
step_named p label ps i old new d e low high at_old at_new =
    let next : i - 1 + 1 ≡ i = omega arith in
    let from_new : drop i ps ≡ new ∷ drop (i + 1) ps = drop_more ps i e high
    ∙ ap (λ x. x ∷ drop (i + 1) ps) at_new in
    let from_old : drop (i - 1) ps ≡ old ∷ drop i ps = drop_more ps (i - 1) d (omega arith)
    ∙ ap (λ x. x ∷ drop (i - 1 + 1) ps) at_old ∙ ap (λ n. old ∷ drop n ps) next in
    ap (named_among p label) from_old
    ∙ ap (named_after p label old) from_new
    ∙ ap (λ qs. if is_named_at p label old new then new.first ∷ named_among p label qs
    else named_among p label qs) (sym from_new)

-- a change that is named goes after those found so far
pub named_more : (p : Rules) (label : Label) (ps : List Period) (i : ℕ) (old new d e : Period)
    (before after all : List ℕ) → 1 ≤ i → i < length ps → get_or ps (i - 1) d ≡ old →
    get_or ps i e ≡ new → before ++ named_among p label (drop (i - 1) ps) ≡ all → after ≡ before
    ++ new.first ∷ [] → is_named_at p label old new ≡ true → after
    ++ named_among p label (drop (i + 1 - 1) ps) ≡ all
named_more p label ps i old new d e before after all low high at_old at_new until added is =
    let on : i + 1 - 1 ≡ i = omega arith in
    ap (λ n. after ++ named_among p label (drop n ps)) on
    ∙ ap (λ ds. ds ++ named_among p label (drop i ps)) added
    ∙ append_assoc before (new.first ∷ []) (named_among p label (drop i ps))
    ∙ ap (λ ds. before ++ ds) (ap (λ b. if b then new.first ∷ named_among p label (drop i ps)
    else named_among p label (drop i ps)) (sym is))
    ∙ ap (λ ds. before ++ ds) (sym (step_named p label ps i old new d e low high at_old at_new))
    ∙ until

-- and no other
pub named_no_more : (p : Rules) (label : Label) (ps : List Period) (i : ℕ) (old new d e : Period)
    (before after all : List ℕ) → 1 ≤ i → i < length ps → get_or ps (i - 1) d ≡ old →
    get_or ps i e ≡ new → before ++ named_among p label (drop (i - 1) ps) ≡ all → after ≡ before →
    is_named_at p label old new ≡ false → after ++ named_among p label (drop (i + 1 - 1) ps) ≡ all
named_no_more p label ps i old new d e before after all low high at_old at_new until same is =
    let on : i + 1 - 1 ≡ i = omega arith in
    ap (λ n. after ++ named_among p label (drop n ps)) on
    ∙ ap (λ ds. ds ++ named_among p label (drop i ps)) same
    ∙ ap (λ ds. before ++ ds) (ap (λ b. if b then new.first ∷ named_among p label (drop i ps)
    else named_among p label (drop i ps)) (sym is))
    ∙ ap (λ ds. before ++ ds) (sym (step_named p label ps i old new d e low high at_old at_new))
    ∙ until

-- one period is at no change
named_last : (p : Rules) (label : Label) (ps : List Period) → length ps ≤ 1 →
    named_among p label ps ≡ []
named_last p label [] one = refl
named_last p label (q ∷ []) one = refl
named_last p label (q ∷ r ∷ ps) one = absurd (omega (arith, one))

-- all changes have been seen
pub skipped_is : (es : List (ℕ × ℕ)) (p : Rules) (t : TerritoryModel) (label : Label)
    (found : List ℕ) (items ps : List Period) (i : ℕ) → items ≡ ps →
    record { starts = map start_of ps; exceptions = es } ≡ t → Covers 1 p.high ps → 1 ≤ i →
    length items ≤ i → found ++ named_among p label (drop (i - 1) items) ≡ named_among p label
    items → found ≡ skipped p t label
skipped_is es p t label found items ps i same view covers low all invariant =
    sym (append-nil found)
    ∙ ap (λ ds. found ++ ds) (sym (named_last p label (drop (i - 1) items) (simp length-drop (omega
    arith))))
    ∙ invariant
    ∙ ap (named_among p label) same
    ∙ named_skipped es p label ps covers
    ∙ ap (λ s. skipped p s label) view
