use Rattle.std.proofs.Common.{◌≡◌, ◌++◌, ◌∷◌, [], ◌∙◌, ◌+◌, ◌==◌, ap, sym, true, false}
use Rattle.std.proofs.Common.{List, Vec, Global, ℕ, drop, append_assoc}
use Rattle.std.proofs.lemmas.Bool.{false_from_ne_true}
use Rattle.std.proofs.lemmas.Bool.Decides.{Decides-eqb}
use Rattle.osn_territory.specs.declared.runs.Run.{Run}
use Rattle.osn_territory.specs.Runs.{days_in}
use Rattle.osn_written.specs.Runs as spec
use Rattle.osn_written.proofs.RunFacts.{one_joined}
use Rattle.osn_written.proofs.runs.joined_after.Goals as goal
use Rattle.osn_written.proofs.runs.joined_after.Goals.{then-number, else-number+in_ok-push}

pub loop-run-preserved : goal.loop-run-preserved
loop-run-preserved c =
    let total = spec.runs_from c.args.first (days_in c.args.others.now) in
    let done = c.loop-run.joined.items in
    let current = c.loop-run.current in
    let run = c.run-item.result in
    let first = c.number.ensures.value in
    let last = c.number-in-loop-run.ensures.value in
    let left = days_in (drop (c.loop-run.run-index + 1) c.args.others.now) in
    elim c.if-number.branch [
      | then-number w ↦
          let touch : (run.first == current.last + 1) ≡ true =
          (Decides-eqb run.first (current.last + 1)).1
          (sym first ∙ w.if-number.true ∙ ap (λ (n : ℕ). n + 1) last) in
          let more = one_joined total done current run c.args.others.now c.loop-run.run-index true
          c.loop-run-test.true c.run-item.is touch c.loop-run.invariant in (
            ap (λ (v : Vec Run Global). v.items ++ spec.runs_from c.if-number.current left)
                w.joined-is
                ∙ ap (λ (r : Run). done ++ spec.runs_from r left) w.current-is
                ∙ more.0,
            more.1,
          )
      | else-number+in_ok-push w ↦
          let apart : (run.first == current.last + 1) ≡ false =
          false_from_ne_true (run.first == current.last + 1) (λ is. w.if-number.false
          (first ∙ (Decides-eqb run.first (current.last + 1)).0 is
          ∙ ap (λ (n : ℕ). n + 1) (sym last))) in
          let more = one_joined total done current run c.args.others.now c.loop-run.run-index false
          c.loop-run-test.true c.run-item.is apart c.loop-run.invariant in (
            ap (λ (v : Vec Run Global). v.items ++ spec.runs_from c.if-number.current left)
                w.joined-is
                ∙ ap (λ (rs : List Run). rs ++ spec.runs_from c.if-number.current left)
                w.in_ok-push.ensures.items
                ∙ append_assoc done (current ∷ []) (spec.runs_from c.if-number.current left)
                ∙ ap (λ (r : Run). done ++ current ∷ spec.runs_from r left) w.current-is
                ∙ more.0,
            more.1,
          )
    ]
