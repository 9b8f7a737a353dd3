use Rattle.std.proofs.Common.{◌≡◌, ℕ, ◌+◌, ◌-◌, ◌<◌, ◌∷◌, ◌++◌, List, length, get_or, take, drop}
use Rattle.std.proofs.Common.{set, map, refl, ap, sym, subst, ◌∙◌, arith}
use Rattle.std.specs.List.{remove}
use Rattle.std.proofs.Math.Seq.{map-set_same}
use Rattle.std.proofs.lemmas.List.{length-take-le}
use Rattle.std.proofs.lemmas.List.Edits.{get_or-remove_below}
use Rattle.osn_days.specs.Rules.{newest_rules}
use Rattle.osn_territory.specs.declared.period.Period.{Period}
use Rattle.osn_territory.specs.Territory.{CoversLine}
use Rattle.osn_territory.specs.PeriodList.{start_of}
use Rattle.osn_territory.proofs.ChangeFacts.{without-at}
use Rattle.osn_territory.proofs.CoverFacts.{at_places, set-remove, covers_join, read_at}
use Rattle.osn_territory.proofs.period_list.join.Goals as goal

-- the period before keeps its place when the one after it is removed
same_place : (ps qs : List Period) (i j : ℕ) (p : Period) → i + 1 ≡ j → j < length ps →
    qs ≡ remove ps j → p ≡ get_or qs i p → p ≡ get_or ps i p
same_place ps qs i j p next within removed read =
    read ∙ ap (λ l. get_or l i p) removed ∙ get_or-remove_below ps j p i (omega arith) within

-- the periods that are left and the joined one, by the two that were there
left : (ps qs : List Period) (i j : ℕ) (p q joined : Period) → i + 1 ≡ j → j < length ps →
    p ≡ get_or ps i p → q ≡ get_or ps j q → qs ≡ remove ps j → set qs i joined ≡ take i ps ++ joined
    ∷ drop (j + 1) ps
left ps qs i j p q joined next within first second removed =
    ap (λ l. set l i joined) removed
    ∙ ap (λ l. set (remove l j) i joined) (at_places ps i j p q next within first second)
    ∙ set-remove (take i ps) (drop (j + 1) ps) p q joined i j (length-take-le i ps (omega arith))
    next

inside : (c : goal.After-periods-1) →
    c.place_of_start-place.result < length c.args.periods.now.items
inside c =
    subst (λ l. c.place_of_start-place.result < length l) c.deref.ensures.value
    c.place_of_start-place.ensures.within

later : (c : goal.After-periods-1) → 0 < c.place_of_start-place.result
later c = c.place_of_start-place.ensures.later c.requires.later

pub overflow_sub-place : goal.overflow_sub-place
overflow_sub-place c = c.place_of_start-place.ensures.later c.requires.later

pub returns-clause-covers : goal.returns-clause-covers
returns-clause-covers c =
    let ps = c.args.periods.now.items in
    let qs = c.remove-removed.new.self.items in
    let j = c.place_of_start-place.result in
    let i = j - 1 in
    let next : i + 1 ≡ j = omega (arith, later c) in
    let p = c.index_mut-joined.result.now in
    let q = c.remove-removed.result in
    let joined : Period = record p { last = q.last } in
    let read = same_place ps qs i j p next (inside c) c.remove-removed.ensures.items
    c.index_mut-joined.ensures.value in
    let whole = at_places ps i j p q next (inside c) read c.remove-removed.ensures.value in
    subst (CoversLine newest_rules) (sym (left ps qs i j p q joined next (inside c) read
    c.remove-removed.ensures.value c.remove-removed.ensures.items))
    (covers_join (take i ps) (drop (j + 1) ps) p q joined 1 newest_rules.high refl refl
    (subst (CoversLine newest_rules) whole c.requires.covers))

pub returns-clause-starts : goal.returns-clause-starts
returns-clause-starts c =
    let ps = c.args.periods.now.items in
    let qs = c.remove-removed.new.self.items in
    let j = c.place_of_start-place.result in
    let p = c.index_mut-joined.result.now in
    let joined : Period = record p { last = c.remove-removed.result.last } in
    let on = read_at (λ r. r.first ≡ c.args.day) c.deref.result.now ps j
    c.remove-removed.result c.deref.ensures.value c.remove-removed.ensures.value
    c.place_of_start-place.ensures.starts in
    map-set_same start_of qs (j - 1) joined p (ap start_of c.index_mut-joined.ensures.value)
    ∙ ap (map start_of) c.remove-removed.ensures.items
    ∙ without-at ps j 1 newest_rules.high c.args.day c.remove-removed.result (inside c)
    c.remove-removed.ensures.value c.requires.covers on
