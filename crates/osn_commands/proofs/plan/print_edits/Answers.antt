use Rattle.std.proofs.Common.{◌≡◌, ℕ, List, Option, IfOk, refl, string_bytes, subst}
use Rattle.osn_lines.specs.Streams.{Output, output_of}
use Rattle.osn_report.specs.Printing.{PrintsIfMade}
use Rattle.osn_report.specs.Messages.{ReportsNothing}
use Rattle.osn_report.specs.declared.status.Status.{Status}
use Rattle.osn_report.specs.declared.status.Status.TheVariants as statuses
use Rattle.osn_commands.specs.Plan.{ReportsNoteAfter, plan_text}
use Rattle.osn_commands.proofs.plan.print_edits.Goals as goal

-- if not all was printed, nothing more was reported
not_printed : (printed : Status) (line : Option (List ℕ)) (e : Output)
    → (printed ≡ statuses.Done → ⊥) → ReportsNothing e → ReportsNoteAfter printed line e printed
not_printed statuses.Done line e other nothing = absurd (other refl)
not_printed statuses.Refused line e other nothing = (refl, nothing)
not_printed statuses.Misused line e other nothing = (refl, nothing)
not_printed statuses.ReadFault line e other nothing = (refl, nothing)
not_printed statuses.WriteFault line e other nothing = (refl, nothing)
not_printed statuses.Unwritten line e other nothing = (refl, nothing)
not_printed statuses.NoMemory line e other nothing = (refl, nothing)

pub returns-in-Done : goal.returns-in-Done
returns-in-Done g c =
    let errors = c.print.new.errors in
    let object = c.args.object.now in
    let target = c.args.target.now in
    let text = plan_text object target c.args.edits.items in
    record {
      between = g.E.Sink.contents errors;
      failed = g.E.Sink.has_failed errors;
      held_back = g.E.Sink.holds_back errors;
      printed = statuses.Done;
      prints =
          subst (PrintsIfMade text
          (output_of g.W.Sink.contents g.W.Sink.has_failed g.W.Sink.holds_back c.args.output.now
          c.print.new.output)
          (output_of g.E.Sink.contents g.E.Sink.has_failed g.E.Sink.holds_back c.args.errors.now
          errors)) c.in-Done.is (c.print.ensures text
          (subst (λ es. IfOk c.plan_text.result (λ t. string_bytes t
          ≡ plan_text object target es)) c.deref.ensures.value c.plan_text.ensures));
      notes = c.report_edits.ensures;
    }

pub returns-in_default : goal.returns-in_default
returns-in_default g c =
    let errors = c.print.new.errors in
    let object = c.args.object.now in
    let target = c.args.target.now in
    let text = plan_text object target c.args.edits.items in
    record {
      between = g.E.Sink.contents errors;
      failed = g.E.Sink.has_failed errors;
      held_back = g.E.Sink.holds_back errors;
      printed = c.print.result;
      prints =
          c.print.ensures text
          (subst (λ es. IfOk c.plan_text.result (λ t. string_bytes t
          ≡ plan_text object target es)) c.deref.ensures.value c.plan_text.ensures);
      notes = not_printed c.print.result _ _ c.in_default.not-Done (refl, refl);
    }
