use Rattle.std.proofs.Common.{◌≡◌, ◌∙◌, ◌==◌, ℕ, None, ap, arith, inl, inr, length}
use Rattle.std.proofs.Common.{not, refl, vec_len}
use Rattle.osn_commands.proofs.PlanLemmas.{same_plan}
use Rattle.osn_commands.proofs.PublishLemmas.{same_fault}
use Rattle.osn_commands.specs.Since.{later_than}
use Rattle.osn_commands.proofs.plan.print_plan.Goals as goal

pub returns-in-Ok : goal.returns-in-Ok
returns-in-Ok g c =
    let object = c.args.object.now in
    let had : later_than c.args.request.edition (length object.batches) ≡ None = cc in
    let size : vec_len c.in-Ok.edits ≡ length c.in-Ok.edits.items =
    omega (arith, c.in-Ok.edits.ok.0) in
    rw had (inr (
      c.in-Ok.edits.items,
      same_plan object _ _ c.args.target.now.territories _ _ c.register.ensures.limits
          c.register.ensures.territories refl c.in-Ok.ensures.ok,
      c.print_edits-status.ensures,
      ap not (c.is_empty-has_edits.ensures ∙ ap (λ (n : ℕ). n == 0) size),
    ))

pub returns-in-Err : goal.returns-in-Err
returns-in-Err g c =
    let object = c.args.object.now in
    let had : later_than c.args.request.edition (length object.batches) ≡ None = cc in
    rw had (inl (
      c.in-Err.fault,
      same_fault object _ _ c.args.target.now.territories c.in-Err.fault c.register.ensures.limits
          c.register.ensures.territories c.in-Err.ensures.err,
      refl,
      c.report_plan_fault.ensures,
    ))
