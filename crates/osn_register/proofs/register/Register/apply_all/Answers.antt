use Rattle.std.proofs.Common.{◌≡◌, ℕ, ◌<◌, ◌+◌, ◌||◌, Bool, true, false, List, ◌∷◌, length, get_or}
use Rattle.std.proofs.Common.{drop, refl, ap, sym, ◌∙◌, arith}
use Rattle.std.proofs.lemmas.List.{drop_more}
use Rattle.osn_days.specs.Rules.{newest_rules}
use Rattle.osn_register.specs.declared.edit.Edit.{Edit}
use Rattle.osn_register.specs.Plain.{after_edit, after_edits, apply_takes_memory}
use Rattle.osn_register.specs.Plain.{fold_takes_memory}
use Rattle.osn_register.proofs.EntryFacts.{on_err}
use Rattle.osn_register.proofs.register.Register.apply_all.Goals as goal

left_from : (es : List Edit) (i : ℕ) (e : Edit) → i < length es → e ≡ get_or es i e →
    drop i es ≡ e ∷ drop (i + 1) es
left_from es i e within is = drop_more es i e within ∙ ap (λ x. x ∷ drop (i + 1) es) (sym is)

or_true : (b : Bool) → (b || true) ≡ true
or_true true = refl
or_true false = refl

pub loop-edit-preserved : goal.loop-edit-preserved
loop-edit-preserved c =
    let es = c.args.edits.now in
    let rest = drop (c.loop-edit.edit-index + 1) es in
    let e = c.edit-item.result in
    let limits = c.args.self.now.limits in
    let before = c.loop-edit.self.territories in
    let is = c.in_ok-apply_if_lawful.ensures.ok in
    let left = left_from es c.loop-edit.edit-index e (omega arith) c.edit-item.is in
    let territories : c.apply_if_lawful.new.self.territories
    ≡ after_edit newest_rules limits before e =
    ap (λ r. r.territories) is
    ∙ ap (λ m. after_edit newest_rules m before e) c.loop-edit.invariant.limits in
    record {
      limits = ap (λ r. r.limits) is ∙ c.loop-edit.invariant.limits;
      territories =
          ap (λ ls. after_edits newest_rules limits ls rest) territories
          ∙ sym (ap (after_edits newest_rules limits before) left)
          ∙ c.loop-edit.invariant.territories;
      memory = λ more. c.loop-edit.invariant.memory (
          ap (fold_takes_memory newest_rules limits before) left
          ∙ ap (λ b. apply_takes_memory newest_rules limits before e || b)
          (ap (λ ls. fold_takes_memory newest_rules limits ls rest) (sym territories) ∙ more)
          ∙ or_true (apply_takes_memory newest_rules limits before e)
          );
    }

pub returns-in_err-apply_if_lawful-clause-memory :
    goal.returns-in_err-apply_if_lawful-clause-memory
returns-in_err-apply_if_lawful-clause-memory c =
    let es = c.args.edits.now in
    let e = c.edit-item.result in
    let limits = c.args.self.now.limits in
    let before = c.loop-edit.self.territories in
    let left = left_from es c.loop-edit.edit-index e (omega arith) c.edit-item.is in
    let here : apply_takes_memory newest_rules limits before e ≡ true =
    ap (λ m. apply_takes_memory newest_rules m before e) (sym c.loop-edit.invariant.limits) ∙
    c.in_err-apply_if_lawful.ensures.memory in
    let all = c.loop-edit.invariant.memory (
    ap (fold_takes_memory newest_rules limits before) left
    ∙ ap (λ b. b || fold_takes_memory newest_rules limits (after_edit newest_rules limits before e)
    (drop (c.loop-edit.edit-index + 1) es)) here
    ) in
    on_err c.from_residual.result all
