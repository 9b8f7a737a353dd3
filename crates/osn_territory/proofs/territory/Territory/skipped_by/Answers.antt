use Rattle.std.proofs.Common.{◌-◌, ◌++◌, ◌∷◌, [], sym, ap, subst, ◌∙◌, arith}
use Rattle.std.proofs.lemmas.List.{get_or_default}
use Rattle.osn_days.specs.Rules.{newest_rules}
use Rattle.osn_territory.specs.declared.period.Period.{Period}
use Rattle.osn_territory.specs.Territory.{CoversLine}
use Rattle.osn_territory.specs.LabelSearch.{AreKnown}
use Rattle.osn_territory.proofs.CoverFacts.{later_at}
use Rattle.osn_territory.proofs.PeriodFacts.{periods_kept}
use Rattle.osn_territory.proofs.SearchFacts.{known_at}
use Rattle.osn_territory.proofs.SkippedFacts.{named_more, named_no_more, skipped_is}
use Rattle.osn_territory.proofs.ExplainedFacts.{explained_is}
use Rattle.osn_territory.proofs.territory.Territory.skipped_by.Goals as goal
use Rattle.osn_territory.proofs.territory.Territory.skipped_by.Goals.{then-is_skipped_at+in_ok-push}
use Rattle.osn_territory.proofs.territory.Territory.skipped_by.Goals.{else-is_skipped_at}

pub is_skipped_at-requires-clause-line : goal.is_skipped_at-requires-clause-line
is_skipped_at-requires-clause-line c =
    let new = c.index-periods-i-in-loop-i in
    let covers = subst (CoversLine newest_rules)
    (sym c.deref-periods.ensures.value) c.self.invariant in
    later_at c.deref-periods.result.now c.loop-i.i 1 newest_rules.high new.result covers
    (omega arith)
    c.loop-i-test.true new.is

pub is_skipped_at-requires-clause-old : goal.is_skipped_at-requires-clause-old
is_skipped_at-requires-clause-old c =
    let old = c.index-periods-i in
    let ps = c.deref-periods.result.now in
    let kept = periods_kept c.self.inside.exceptions.entries newest_rules c.args.self.now ps
    c.self.inside.periods.items c.deref-periods.ensures.value c.self.view_is c.self.invariant in
    let table = c.args.search.now.table in
    let known = subst (AreKnown table) (sym kept) c.requires.1 in
    known_at table ps (c.loop-i.i - 1) old.result old.result known (omega arith) (sym old.is)

pub is_skipped_at-requires-clause-new : goal.is_skipped_at-requires-clause-new
is_skipped_at-requires-clause-new c =
    let new = c.index-periods-i-in-loop-i in
    let ps = c.deref-periods.result.now in
    let kept = periods_kept c.self.inside.exceptions.entries newest_rules c.args.self.now ps
    c.self.inside.periods.items c.deref-periods.ensures.value c.self.view_is c.self.invariant in
    let table = c.args.search.now.table in
    let known = subst (AreKnown table) (sym kept) c.requires.1 in
    known_at table ps c.loop-i.i new.result new.result known c.loop-i-test.true (sym new.is)

pub loop-i-preserved : goal.loop-i-preserved
loop-i-preserved c =
    let old = c.index-periods-i in
    let new = c.index-periods-i-in-loop-i in
    let ps = c.deref-periods.result.now in
    let label = c.args.search.now.label in
    let i = c.loop-i.i in
    elim c.if-is_skipped_at.branch [
      | then-is_skipped_at+in_ok-push w ↦
          let pushed = w.index-periods-i-then-is_skipped_at in
          named_more newest_rules label ps i old.result new.result old.result new.result
          c.loop-i.days.items c.if-is_skipped_at.days.items _ (omega arith) (omega arith)
          (sym old.is) (sym new.is) c.loop-i.invariant
          (ap (λ v. v.items) w.days-is ∙ w.in_ok-push.ensures.items
          ∙ ap (λ (q : Period). c.loop-i.days.items ++ q.first ∷ [])
          (get_or_default ps i pushed.result new.result c.loop-i-test.true
          ∙ sym new.is))
          (sym c.is_skipped_at.ensures ∙ w.if-is_skipped_at.true)
      | else-is_skipped_at w ↦ named_no_more newest_rules label ps i old.result new.result
          old.result new.result c.loop-i.days.items c.if-is_skipped_at.days.items _
          (omega arith) (omega arith) (sym old.is) (sym new.is) c.loop-i.invariant
          (ap (λ v. v.items) w.days-is) (sym c.is_skipped_at.ensures ∙ w.if-is_skipped_at.false)
    ]

pub returns-clause-value : goal.returns-clause-value
returns-clause-value c =
    skipped_is c.self.inside.exceptions.entries newest_rules c.args.self.now c.args.search.now.label
    c.loop-i.days.items c.deref-periods.result.now c.self.inside.periods.items c.loop-i.i
    c.deref-periods.ensures.value c.self.view_is c.self.invariant (omega arith) (omega arith)
    c.loop-i.invariant

pub returns-clause-explained : goal.returns-clause-explained
returns-clause-explained c =
    explained_is c.self.inside.exceptions.entries newest_rules c.args.self.now
    c.args.search.now.label c.loop-i.days.items c.self.inside.periods.items c.self.view_is
    c.self.invariant (returns-clause-value c)
