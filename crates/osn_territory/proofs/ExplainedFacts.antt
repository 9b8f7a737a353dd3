-- A label that some regime has, and that is read on no day, is skipped at a change. This holds for
-- any number of days that a label may have under one regime.
use Rattle.std.proofs.Common.{◌≡◌, ℕ, ◌+◌, ◌≤◌, Bool, true, false, not, ◌&&◌, ◌||◌, nat_le, nat_lt}
use Rattle.std.proofs.Common.{◌⊎◌, inl, inr, if◌then◌else◌, List, [], ◌∷◌, map, refl, sym, subst}
use Rattle.std.proofs.Common.{ap, ◌∙◌, arith}
use Rattle.std.proofs.lemmas.Bool.{and_parts, and_cases, or_left, or_right, or_parts, or_from}
use Rattle.std.proofs.lemmas.Bool.{not-false, not_from_true, both_ways, cases_Bool, cases_lt}
use Rattle.std.proofs.lemmas.Bool.{le-leb, leb-true, lt-ltb, false_from_ne_true}
use Rattle.std.specs.List.{list_any}
use Rattle.osn_days.specs.Rules.{Rules}
use Rattle.osn_days.specs.Line.{line}
use Rattle.osn_days.proofs.RangeFacts.{any_in, any_from}
use Rattle.osn_territory.specs.declared.regime.Regime.{Regime}
use Rattle.osn_territory.specs.declared.label.Label.{Label}
use Rattle.osn_territory.specs.declared.period.Period.{Period}
use Rattle.osn_territory.specs.Label.{days_with_label}
use Rattle.osn_territory.specs.Territory.{TerritoryModel, Covers, IsExplained, regime_at, reading}
use Rattle.osn_territory.specs.Territory.{is_empty, is_skipped_at, skipped_after, skipped_among}
use Rattle.osn_territory.specs.Territory.{skipped}
use Rattle.osn_territory.specs.PeriodList.{start_of}
use Rattle.osn_territory.specs.LabelSearch.{has_label}
use Rattle.osn_territory.proofs.MemberFacts.{no_days_is, no_days_not, some_days_any}
use Rattle.osn_territory.proofs.PeriodFacts.{periods_back}
use Rattle.osn_territory.proofs.RegimeFacts.{Agrees, agrees}

-- the label has no day under the regime, or one after the period
abbrev IsAhead : Rules → Label → Period → Type 0
IsAhead p label q =
    (is_empty (days_with_label p q.regime label) ≡ true)
    ⊎ (list_any (λ d. nat_le (q.last + 1) d) (days_with_label p q.regime label) ≡ true)

-- a label that is not read has no day from the first of the period on that is not after it
ahead_from : (p : Rules) (t : TerritoryModel) (label : Label) (q : Period) (d : ℕ) →
    is_empty (reading p t label) ≡ true →
    ((e : ℕ) → q.first ≤ e → e ≤ q.last → regime_at t e ≡ q.regime) → 1 ≤ d → d ≤ p.high →
    has_label p label q.regime d ≡ true → q.first ≤ d → IsAhead p label q
unfolding days_with_label reading line
ahead_from p t label q d none inside low high has from =
    elim (cases_lt q.last d) [
      | inl later ↦ inr (any_from (λ e. nat_le (q.last + 1) e)
          (λ e. has_label p label q.regime e) 1
          p.high d low (omega arith) has (le-leb (q.last + 1) d (omega arith)))
      | inr within ↦ absurd (no_days_not (λ e. has_label p label
          (regime_at t e) e) p.high d none low
          high (ap (λ r. has_label p label r d) (inside d from within) ∙ has))
    ]

ahead_at_start : (p : Rules) (t : TerritoryModel) (label : Label) (q : Period) →
    is_empty (reading p t label) ≡ true →
    ((e : ℕ) → q.first ≤ e → e ≤ q.last → regime_at t e ≡ q.regime) → q.first ≡ 1 →
    IsAhead p label q
unfolding days_with_label line
ahead_at_start p t label q none inside first =
    let days = days_with_label p q.regime label in
    elim (cases_Bool (is_empty days)) [
      | inl none_at_all ↦ inl none_at_all
      | inr some ↦
          let d = any_in (λ e. true) (λ e. has_label p label q.regime e) 1 p.high
          (some_days_any days some) in
          ahead_from p t label q d.0 none inside d.1.low (omega (arith, d.1.high)) d.1.passes
          (omega (arith, d.1.low))
    ]

-- no day before the period, and some day
ahead_past : (p : Rules) (t : TerritoryModel) (label : Label) (q : Period) →
    is_empty (reading p t label) ≡ true →
    ((e : ℕ) → q.first ≤ e → e ≤ q.last → regime_at t e ≡ q.regime) →
    list_any (λ d. nat_lt d q.first) (days_with_label p q.regime label) ≡ false →
    is_empty (days_with_label p q.regime label) ≡ false → IsAhead p label q
unfolding days_with_label line
ahead_past p t label q none inside not_before some =
    let days = days_with_label p q.regime label in
    let d = any_in (λ e. true) (λ e. has_label p label q.regime e) 1 p.high
    (some_days_any days some) in
    elim (cases_lt d.0 q.first) [
      | inl before ↦ absurd (both_ways (list_any (λ e. nat_lt e q.first) days) not_before
          (any_from (λ e. nat_lt e q.first) (λ e. has_label p label q.regime e) 1 p.high d.0 d.1.low
          d.1.high d.1.passes (lt-ltb d.0 q.first before)))
      | inr from ↦ ahead_from p t label q d.0 none inside d.1.low (omega (arith, d.1.high))
          d.1.passes from
    ]

-- what is after the last period is not on the line
no_days_at_end : (p : Rules) (label : Label) (q : Period) → q.last + 1 ≡ p.high + 1 →
    IsAhead p label q → is_empty (days_with_label p q.regime label) ≡ true
unfolding days_with_label line
no_days_at_end p label q end (inl none_at_all) = none_at_all
no_days_at_end p label q end (inr later) =
    let d = any_in (λ e. nat_le (q.last + 1) e)
    (λ e. has_label p label q.regime e) 1 p.high later in
    absurd (omega (arith, d.1.high, leb-true (q.last + 1) d.0 d.1.tested))

-- the first and the last of four conditions hold, and not all of them
second_or_third : (a b c d : Bool) → a ≡ true → d ≡ true → (a && (b && (c && d))) ≡ false →
    (b ≡ false) ⊎ (c ≡ false)
second_or_third a b c d is_a is_d all =
    let three : (b && (c && d)) ≡ false = rw is_a at all in
    elim (and_cases b (c && d) three) [
      | inl second ↦ inl second
      | inr more ↦ elim (and_cases c d more) [
        | inl third ↦ inr third
        | inr last ↦
            absurd (both_ways d last is_d)
      ]
    ]

-- if the label is not skipped at a change, the second condition fails, or it has no day under
-- either regime
failed : (p : Rules) (t : TerritoryModel) (label : Label) (old new : Period) →
    is_empty (reading p t label) ≡ true → new.first ≡ old.last + 1 → IsAhead p label old →
    is_skipped_at p t label old new ≡ false →
    ((list_any (λ d. nat_lt d new.first) (days_with_label p new.regime label)
    || is_empty (days_with_label p new.regime label)) ≡ false)
    ⊎ ((is_empty (days_with_label p old.regime label)
    && is_empty (days_with_label p new.regime label)) ≡ true)
failed p t label old new none next ahead is =
    let olds = days_with_label p old.regime label in
    let news = days_with_label p new.regime label in
    let late : Bool = list_any (λ d. nat_le new.first d) olds || is_empty olds in
    let early : Bool = list_any (λ d. nat_lt d new.first) news || is_empty news in
    let both : Bool = is_empty olds && is_empty news in
    let q : ℕ → Bool = λ d. nat_le old.first d && nat_le d new.last in
    let is_late : late ≡ true =
    elim ahead [
      | inl none_at_all ↦ or_right (list_any (λ d. nat_le new.first d) olds) (is_empty olds)
          none_at_all
      | inr later ↦ or_left (list_any (λ d. nat_le new.first d) olds) (is_empty olds)
          (ap (λ n. list_any (λ d. nat_le n d) olds) next ∙ later)
    ] in
    let unread : not (list_any q (reading p t label)) ≡ true =
    ap (λ ds. not (list_any q ds)) (no_days_is (reading p t label) none) in
    elim (second_or_third late early (not both) (not (list_any q (reading p t label))) is_late
    unread is) [
      | inl second ↦ inl second
      | inr third ↦ inr (not-false both third)
    ]

ahead_next : (p : Rules) (t : TerritoryModel) (label : Label) (old new : Period) →
    is_empty (reading p t label) ≡ true →
    ((e : ℕ) → new.first ≤ e → e ≤ new.last → regime_at t e ≡ new.regime) →
    new.first ≡ old.last + 1 → IsAhead p label old → is_skipped_at p t label old new ≡ false →
    IsAhead p label new
ahead_next p t label old new none inside next ahead is =
    let olds = days_with_label p old.regime label in
    let news = days_with_label p new.regime label in
    elim (failed p t label old new none next ahead is) [
      | inl second ↦ let parts = or_parts (list_any (λ d. nat_lt d new.first) news) (is_empty news)
          second in ahead_past p t label new none inside parts.0 parts.1
      | inr both ↦ inl (and_parts (is_empty olds) (is_empty news) both).1
    ]

no_days_back : (p : Rules) (t : TerritoryModel) (label : Label) (old new : Period) →
    is_empty (reading p t label) ≡ true → new.first ≡ old.last + 1 → IsAhead p label old →
    is_skipped_at p t label old new ≡ false → is_empty (days_with_label p new.regime label) ≡ true →
    is_empty (days_with_label p old.regime label) ≡ true
no_days_back p t label old new none next ahead is none_at_all =
    let olds = days_with_label p old.regime label in
    let news = days_with_label p new.regime label in
    elim (failed p t label old new none next ahead is) [
      | inl second ↦ absurd (both_ways (is_empty news) (or_parts (list_any (λ d. nat_lt d new.first)
          news) (is_empty news) second).1 none_at_all)
      | inr both ↦ (and_parts (is_empty olds) (is_empty news) both).0
    ]

none_here : (b : Bool) (d : ℕ) (ds : List ℕ) → (if b then d ∷ ds else ds) ≡ [] → (b ≡ false)
    × (ds ≡ [])
none_here true d ds none = let clash : d ∷ ds ≡ [] = none in absurd cc
none_here false d ds none = (refl, none)

abbrev is_dated_among : Rules → Label → List (ℕ × Regime) → Bool
is_dated_among p label starts = list_any (λ s. not (is_empty (days_with_label p s.1 label))) starts

-- no regime has the label from a period on, if the label has no day there or one after the period,
-- and no change is named
undated_after : (p : Rules) (t : TerritoryModel) (label : Label) (first : ℕ) (old : Period)
    (rest : List Period) → Covers first p.high (old ∷ rest) → Agrees (regime_at t) (old ∷ rest) →
    is_empty (reading p t label) ≡ true → IsAhead p label old →
    skipped_after p t label old rest ≡ [] →
    is_dated_among p label (map start_of (old ∷ rest)) ≡ false
undated_after p t label first old [] covers agree none ahead nothing =
    or_from (not (is_empty (days_with_label p old.regime label))) false
    (not_from_true (is_empty (days_with_label p old.regime label))
    (no_days_at_end p label old covers.2 ahead)) refl
undated_after p t label first old (new ∷ rest) covers agree none ahead nothing =
    let here = none_here (is_skipped_at p t label old new) new.first
    (skipped_after p t label new rest) nothing in
    let more = undated_after p t label (old.last + 1) new rest covers.2 agree.1 none
    (ahead_next p t label old new none agree.1.0 covers.2.0 ahead here.0) here.1 in
    let new_one = or_parts (not (is_empty (days_with_label p new.regime label)))
    (is_dated_among p label (map start_of rest)) more in
    or_from (not (is_empty (days_with_label p old.regime label)))
    (is_dated_among p label (map start_of (new ∷ rest)))
    (not_from_true (is_empty (days_with_label p old.regime label))
    (no_days_back p t label old new none covers.2.0 ahead here.0
    (not-false (is_empty (days_with_label p new.regime label)) new_one.0))) more

undated_among : (p : Rules) (t : TerritoryModel) (label : Label) (ps : List Period) →
    Covers 1 p.high ps → Agrees (regime_at t) ps → is_empty (reading p t label) ≡ true →
    skipped_among p t label ps ≡ [] → is_dated_among p label (map start_of ps) ≡ false
undated_among p t label [] covers agree none nothing = refl
undated_among p t label (opening ∷ rest) covers agree none nothing =
    undated_after p t label 1 opening rest covers agree none
    (ahead_at_start p t label opening none agree.0 covers.0) nothing

explained : (es : List (ℕ × ℕ)) (p : Rules) (label : Label) (ps : List Period) →
    Covers 1 p.high ps → IsExplained p (record { starts = map start_of ps; exceptions = es }) label
    (skipped p (record { starts = map start_of ps; exceptions = es }) label)
explained es p label ps covers none dated =
    let t : TerritoryModel = record { starts = map start_of ps; exceptions = es } in
    false_from_ne_true (is_empty (skipped p t label)) (λ none_at_all.
    let nothing : skipped_among p t label ps ≡ [] =
    ap (skipped_among p t label) (sym (periods_back 1 p.high ps covers))
    ∙ no_days_is (skipped p t label) none_at_all in
    both_ways (is_dated_among p label (map start_of ps))
    (undated_among p t label ps covers (agrees es 1 p.high ps covers) none nothing) dated)

pub explained_is : (es : List (ℕ × ℕ)) (p : Rules) (t : TerritoryModel) (label : Label)
    (found : List ℕ) (ps : List Period) → record { starts = map start_of ps; exceptions = es } ≡ t →
    Covers 1 p.high ps → found ≡ skipped p t label → IsExplained p t label found
explained_is es p t label found ps view covers same =
    let all = subst (λ s. IsExplained p s label (skipped p s label)) view
    (explained es p label ps covers) in
    λ none dated. ap is_empty same ∙ all none dated
