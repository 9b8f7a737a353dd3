-- What a period reads is what it holds of the days with the label. What periods read in order, the
-- line reads.
use Rattle.std.proofs.Common.{◌≡◌, ℕ, ◌+◌, ◌-◌, ◌≤◌, Bool, nat_le, List, [], ◌∷◌}
use Rattle.std.proofs.Common.{◌++◌, filter, map, drop, length, refl, sym, ap, ◌∙◌}
use Rattle.std.proofs.Common.{arith}
use Rattle.std.proofs.lemmas.Bool.{and_from, and_left, and_right, le-leb, lt-leb}
use Rattle.std.proofs.lemmas.List.{append-nil, drop_all}
use Rattle.std.proofs.lemmas.List.Elements.{filter-append}
use Rattle.std.specs.List.{range_with_len, flat_map}
use Rattle.osn_days.specs.Rules.{Rules}
use Rattle.osn_days.specs.Line.{line}
use Rattle.osn_days.proofs.RangeFacts.{range_join, filter_same, filter_within}
use Rattle.osn_territory.specs.declared.regime.Regime.{Regime}
use Rattle.osn_territory.specs.declared.label.Label.{Label}
use Rattle.osn_territory.specs.declared.period.Period.{Period}
use Rattle.osn_territory.specs.Label.{days_with_label}
use Rattle.osn_territory.specs.Territory.{TerritoryModel, Covers, regime_at, reading}
use Rattle.osn_territory.specs.PeriodList.{start_of, is_held}
use Rattle.osn_territory.specs.LabelSearch.{has_label, days_read}
use Rattle.osn_territory.proofs.RegimeFacts.{Agrees, agrees}

covers_until : (first last : ℕ) (ps : List Period) → Covers first last ps → first ≤ last + 1
covers_until first last [] covers = omega (arith, covers)
covers_until first last (p ∷ ps) covers =
    omega (arith, covers.0, covers.1, covers_until (p.last + 1) last ps covers.2)

days_join : (first last : ℕ) (p : Period) → p.last + 1 ≤ last + 1 → p.first ≡ first →
    p.first ≤ p.last → range_with_len p.first (p.last + 1 - p.first)
    ++ range_with_len (p.last + 1) (last + 1 - (p.last + 1)) ≡ range_with_len first
    (last + 1 - first)
days_join first last p until from full =
    sym (range_join p.first (p.last + 1) (last + 1) (omega arith) until)
    ∙ ap (λ k. range_with_len k (last + 1 - k)) from

-- period by period, or day by day
in_periods : (p : Rules) (label : Label) (regime : ℕ → Regime) (first last : ℕ)
    (ps : List Period) → Covers first last ps → Agrees regime ps →
    flat_map (days_read p label) ps ≡ filter (λ d. has_label p label (regime d) d)
    (range_with_len first (last + 1 - first))
in_periods p label regime first last [] covers agree =
    let none : last + 1 - first ≡ 0 = omega (arith, covers) in rw none refl
in_periods p label regime first last (q ∷ qs) covers agree =
    let on : ℕ → Bool = λ d. has_label p label (regime d) d in
    let n = q.last + 1 - q.first in
    let m = last + 1 - (q.last + 1) in
    let here : days_read p label q ≡ filter on (range_with_len q.first n) =
    filter_same (has_label p label q.regime) on q.first n (λ d low high.
    ap (λ r. has_label p label r d) (sym (agree.0 d low (omega arith)))) in
    ap (λ l. l ++ flat_map (days_read p label) qs) here
    ∙ ap (λ l. filter on (range_with_len q.first n) ++ l)
    (in_periods p label regime (q.last + 1) last qs covers.2 agree.1)
    ∙ sym (filter-append on (range_with_len q.first n) (range_with_len (q.last + 1) m))
    ∙ ap (filter on) (days_join first last q (covers_until (q.last + 1) last qs covers.2) covers.0
    covers.1)

in_territory : (label : Label) (es : List (ℕ × ℕ)) (p : Rules) (ps : List Period) →
    Covers 1 p.high ps → flat_map (days_read p label) ps ≡ filter (λ d.
    has_label p label (regime_at (record { starts = map start_of ps; exceptions = es }) d) d)
    (line p)
unfolding line
in_territory label es p ps covers =
    let whole : p.high + 1 - 1 ≡ p.high = omega arith in
    in_periods p label (regime_at (record { starts = map start_of ps; exceptions = es })) 1
    p.high ps
    covers (agrees es 1 p.high ps covers)
    ∙ rw whole refl

-- all periods have been read
pub reading_is : (es : List (ℕ × ℕ)) (p : Rules) (t : TerritoryModel) (label : Label)
    (found : List ℕ) (items ps : List Period) (i : ℕ) → items ≡ ps →
    record { starts = map start_of ps; exceptions = es } ≡ t → Covers 1 p.high ps →
    length items ≤ i →
    found ++ flat_map (days_read p label) (drop i items) ≡ flat_map (days_read p label) items →
    found ≡ reading p t label
unfolding reading
reading_is es p t label found items ps i same view covers all invariant =
    sym (append-nil found)
    ∙ ap (λ qs. found ++ flat_map (days_read p label) qs) (sym (drop_all i items all))
    ∙ invariant
    ∙ ap (flat_map (days_read p label)) same
    ∙ in_territory label es p ps covers
    ∙ ap (λ s. filter (λ d. has_label p label (regime_at s d) d) (line p)) view

-- what a period reads
pub held_days : (p : Rules) (label : Label) (q : Period) → 1 ≤ q.first → q.first ≤ q.last →
    q.last ≤ p.high → filter (is_held q) (days_with_label p q.regime label) ≡ days_read p label q
unfolding days_with_label line
held_days p label q low some most =
    filter_within (is_held q) (has_label p label q.regime) p.high q.first q.last low (omega arith)
    most
    (λ d from until. and_from (nat_le q.first d) (nat_le d q.last) (le-leb q.first d from)
    (le-leb d q.last until))
    (λ d before. and_left (nat_le q.first d) (nat_le d q.last) (lt-leb q.first d before))
    (λ d past. and_right (nat_le q.first d) (nat_le d q.last) (lt-leb d q.last past))
