use Rattle.std.proofs.Common.{◌≡◌, IfOk, inl, inr, refl, string_bytes, subst}
use Rattle.osn_commands.specs.Diff.{diff_text}
use Rattle.osn_commands.proofs.diff.print_edits.Goals as goal

pub returns-in-Ok : goal.returns-in-Ok
returns-in-Ok g c =
    let earlier = c.args.earlier.now.territories in
    let later = c.args.later.now.territories in
    inr (
      c.in-Ok.edits.items,
      c.in-Ok.ensures.ok,
      c.print.ensures (diff_text earlier later c.in-Ok.edits.items c.args.from c.args.to)
          (subst (λ es. IfOk c.diff_text.result
          (λ t. string_bytes t ≡ diff_text earlier later es c.args.from c.args.to))
          c.deref.ensures.value c.diff_text.ensures),
    )

pub returns-in-Err : goal.returns-in-Err
returns-in-Err g c =
    inl (c.in-Err.fault, c.in-Err.ensures.err, refl, c.report_plan_fault.ensures)
