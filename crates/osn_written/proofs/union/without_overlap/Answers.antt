use Rattle.std.proofs.Common.{◌≡◌, ◌≤◌, ◌<◌, ◌+◌, ◌∙◌, ap, arith, drop, subst₂, sym, ℕ, Vec, Global}
use Rattle.osn_days.specs.Rules.{newest_rules}
use Rattle.osn_territory.specs.declared.runs.Run.{Run}
use Rattle.osn_written.proofs.UnionFacts.{IsRestBefore, no_rest, one_rest}
use Rattle.osn_written.proofs.union.without_overlap.Goals as goal
use Rattle.osn_written.proofs.union.without_overlap.Goals.{then-first-last+in_ok-push_from}
use Rattle.osn_written.proofs.union.without_overlap.Goals.{else-first-last}

pub loop-run-preserved : goal.loop-run-preserved
loop-run-preserved c =
    let runs = c.args.runs.now in
    let so_far = c.loop-run.rest.items in
    let next = c.loop-run.next in
    let i = c.loop-run.run-index in
    let run = c.run-item.result in
    let first = c.first_from-first.result in
    let last : c.number-last.result ≡ run.last = c.number-last.ensures.value in
    let end = c.number-last.ensures.on_line.1 in
    let high : run.last ≤ newest_rules.high = omega (arith, last, end) in
    let kept = c.loop-run.invariant in
    elim c.if-first-last.branch [
      | then-first-last+in_ok-push_from w ↦
          let some : first ≤ run.last = omega (arith, last, w.if-first-last.true) in (
            subst₂ (λ rest n. IsRestBefore newest_rules runs rest n (drop (i + 1) runs))
                (sym (ap (λ (v : Vec Run Global). v.items) w.rest-is ∙ w.in_ok-push_from.ensures))
                (sym (w.next-is ∙ ap (λ (n : ℕ). n + 1) last))
                (one_rest newest_rules runs so_far next i run first c.loop-run-test.true
                c.run-item.is kept.0 high c.first_from-first.ensures some),
            omega (arith, w.next-is),
            omega (arith, w.next-is, end),
          )
      | else-first-last w ↦
          let none : run.last < first = omega (arith, last, w.if-first-last.false) in (
            subst₂ (λ rest n. IsRestBefore newest_rules runs rest n (drop (i + 1) runs))
                (sym (ap (λ (v : Vec Run Global). v.items) w.rest-is)) (sym w.next-is)
                (no_rest newest_rules runs so_far next i run first c.loop-run-test.true
                c.run-item.is kept.0 high c.first_from-first.ensures none),
            omega (arith, w.next-is, kept.1),
            omega (arith, w.next-is, kept.2),
          )
    ]
