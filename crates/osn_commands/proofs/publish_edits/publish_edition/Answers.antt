use Rattle.std.proofs.Common.{inl, inr, refl, subst, sym}
use Rattle.osn_files.specs.CountedPrefix.{IsCountedPrefix}
use Rattle.osn_serve_commands.proofs.ResultLemmas.{known_bytes}
use Rattle.osn_commands.specs.PublishInside.{AreLinesOf}
use Rattle.osn_commands.proofs.publish_edits.publish_edition.Goals as goal

pub returns-in-Ok : goal.returns-in-Ok
returns-in-Ok g c = λ input part_of edits lines.
    let h = c.in-Ok.ensures.ok in
    let errors = c.write_edition.new.errors in
    let made = h.2 edits (subst (AreLinesOf c.args.part edits) (sym c.deref.ensures.value) lines) in
    record {
      cut = h.0;
      between = g.E.Sink.contents errors;
      failed = g.E.Sink.has_failed errors;
      held_back = g.E.Sink.holds_back errors;
      reports = h.1;
      ended = inl (
        rw (← c.as_str.ensures.value) c.print_report.ensures,
        (λ content known got.
            made content known
            (known_bytes input content (IsCountedPrefix c.args.part) got part_of)),
      );
    }

pub returns-in-Err : goal.returns-in-Err
returns-in-Err g c = λ input part_of edits lines.
    let h = c.in-Err.ensures.err in
    let errors = c.write_edition.new.errors in
    let made = h.2 edits (subst (AreLinesOf c.args.part edits) (sym c.deref.ensures.value) lines) in
    record {
      cut = h.0;
      between = g.E.Sink.contents errors;
      failed = g.E.Sink.has_failed errors;
      held_back = g.E.Sink.holds_back errors;
      reports = h.1;
      ended = inr (
        c.in-Err.fault,
        (refl, c.report_at.ensures),
        (λ content known got.
            made content known
            (known_bytes input content (IsCountedPrefix c.args.part) got part_of)),
      );
    }
