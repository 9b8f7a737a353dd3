use Rattle.std.proofs.Common.{◌≡◌, ℕ, ◌+◌, ◌<◌, ◌≤◌, List, ◌∷◌, ◌++◌, length, get_or, take, drop}
use Rattle.std.proofs.Common.{set, map, refl, ap, sym, subst, ◌∙◌, arith, rules}
use Rattle.std.specs.List.{insert}
use Rattle.std.proofs.lemmas.List.{length-take-le, get_or_default}
use Rattle.std.proofs.lemmas.List.Edits.{get_or-insert_below}
use Rattle.osn_days.specs.Rules.{newest_rules}
use Rattle.osn_territory.specs.declared.period.Period.{Period}
use Rattle.osn_territory.specs.Territory.{CoversLine}
use Rattle.osn_territory.specs.Changes.{with_start}
use Rattle.osn_territory.specs.PeriodList.{start_of}
use Rattle.osn_territory.proofs.CoverFacts.{at_place, set-insert, covers_split, read_at}
use Rattle.osn_territory.proofs.ChangeFacts.{with_start-is, no_sooner-at}
use Rattle.osn_territory.proofs.period_list.split.Goals as goal

-- the period that is split keeps its place after the insertion
same_place : (ps qs : List Period) (i : ℕ) (p x after : Period) → i < length ps →
    p ≡ get_or ps i p → qs ≡ insert ps (i + 1) after → x ≡ get_or qs i x → x ≡ p
same_place ps qs i p x after within is inserted read =
    read
    ∙ ap (λ l. get_or l i x) inserted
    ∙ get_or-insert_below ps (i + 1) after x i (omega arith) (omega arith)
    ∙ get_or_default ps i x p within
    ∙ sym is

halves : (ps qs : List Period) (i : ℕ) (p before after : Period) → i < length ps →
    p ≡ get_or ps i p → qs ≡ insert ps (i + 1) after → set qs i before ≡ take i ps ++ before ∷ after
    ∷ drop (i + 1) ps
halves ps qs i p before after within is inserted =
    ap (λ l. set l i before) inserted
    ∙ ap (λ l. set (insert l (i + 1) after) i before) (at_place ps i p within is)
    ∙ set-insert (take i ps) (drop (i + 1) ps) p before after i (length-take-le i ps (omega arith))

within : (c : goal.After-periods-1) →
    c.place_to_split-place.result < length c.args.periods.now.items
within c =
    subst (λ l. c.place_to_split-place.result < length l) c.deref.ensures.value
    c.place_to_split-place.ensures.within

held : (c : goal.After-periods-1) →
    (c.index.result.now.first < c.args.day) × (c.args.day ≤ c.index.result.now.last)
held c =
    read_at (λ q. (q.first < c.args.day) × (c.args.day ≤ q.last)) c.deref.result.now
    c.args.periods.now.items c.place_to_split-place.result c.index.result.now
    c.deref.ensures.value c.index.ensures c.place_to_split-place.ensures.holds

covering : (c : goal.After-periods-1) →
    CoversLine newest_rules (take c.place_to_split-place.result c.args.periods.now.items
    ++ c.index.result.now
    ∷ drop (c.place_to_split-place.result + 1) c.args.periods.now.items)
covering c = subst (CoversLine newest_rules)
    (at_place c.args.periods.now.items c.place_to_split-place.result
    c.index.result.now (within c) c.index.ensures) c.requires.covers

abbrev started : goal.After-periods-1 → Period
started c = record { first = c.args.day; last = c.index.result.now.last; regime = c.args.regime }

abbrev ended : goal.After-periods-1 → Period
ended c = record c.index_mut-ended.result.now { last = c.on_line-ended.result }

same_entry : (c : goal.After-periods-1) → c.index_mut-ended.result.now ≡ c.index.result.now
same_entry c = same_place c.args.periods.now.items c.insert.new.self.items
    c.place_to_split-place.result c.index.result.now c.index_mut-ended.result.now (started c)
    (within c) c.index.ensures c.in_ok-insert.ensures.items c.index_mut-ended.ensures.value

made : (c : goal.After-periods-1) → set c.insert.new.self.items c.place_to_split-place.result
    (ended c) ≡ take c.place_to_split-place.result c.args.periods.now.items ++ ended c ∷ started c
    ∷ drop (c.place_to_split-place.result + 1) c.args.periods.now.items
made c = halves c.args.periods.now.items c.insert.new.self.items c.place_to_split-place.result
    c.index.result.now (ended c) (started c) (within c) c.index.ensures
    c.in_ok-insert.ensures.items

pub on_line-ended-requires : goal.on_line-ended-requires
on_line-ended-requires c =
    let ps = c.args.periods.now.items in
    let i = c.place_to_split-place.result in
    let p = c.index.result.now in
    let found = c.place_to_split-place.ensures in
    let inside = subst (λ l. i < length l) c.deref.ensures.value found.within in
    let begin = no_sooner-at ps i 1 newest_rules.high c.args.day p inside c.index.ensures
    c.requires.covers in
    let first = read_at (λ q. q.first < c.args.day) c.deref.result.now ps i p
    c.deref.ensures.value c.index.ensures (λ q. (found.holds q).0) in
    let later : 1 < c.args.day = omega (arith, begin, first) in
    search (rules, later)

pub returns-clause-covers : goal.returns-clause-covers
returns-clause-covers c =
    let ps = c.args.periods.now.items in
    let on = held c in
    let begin = ap (λ q. q.first) (same_entry c) in
    let low = no_sooner-at ps c.place_to_split-place.result 1 newest_rules.high c.args.day
    c.index.result.now (within c) c.index.ensures c.requires.covers in
    let later : 1 < c.args.day = omega (arith, low, on.0) in
    let day_before : c.on_line-ended.result + 1 ≡ c.args.day = search (rules, later) in
    subst (CoversLine newest_rules) (sym (made c))
    (covers_split (take c.place_to_split-place.result ps)
    (drop (c.place_to_split-place.result + 1) ps)
    c.index.result.now (ended c) (started c) 1 newest_rules.high
    begin (omega (arith, begin, on.0, day_before)) day_before
    on.1 refl (covering c))

pub returns-clause-ok : goal.returns-clause-ok
returns-clause-ok c =
    let ps = c.args.periods.now.items in
    let on = held c in
    ap (map start_of) (made c)
    ∙ with_start-is (take c.place_to_split-place.result ps)
    (drop (c.place_to_split-place.result + 1) ps)
    c.index.result.now (ended c) (started c) 1 newest_rules.high c.args.day c.args.regime
    (covering c) on.0 on.1 (ap start_of (same_entry c)) refl
    ∙ ap (λ qs. with_start c.args.day c.args.regime (map start_of qs))
    (sym (at_place ps c.place_to_split-place.result c.index.result.now (within c)
    c.index.ensures))
