use Rattle.std.proofs.Common.{inl, inr, refl}
use Rattle.osn_journal.specs.KeptJournal.{file_of}
use Rattle.osn_serve_commands.proofs.keep.keep_command.Goals as goal

pub returns-in-Ok : goal.returns-in-Ok
returns-in-Ok g c =
    let h = c.in-Ok.ensures.ok in
    let errors = c.begin.new.errors in
    let state = file_of g.K.KeptFile.contents g.K.KeptFile.synced g.K.KeptFile.fault in
    record {
      cut = h.0;
      between = g.E.Sink.contents errors;
      failed = g.E.Sink.has_failed errors;
      held_back = g.E.Sink.holds_back errors;
      reports = h.1;
      ended = inr (
        c.in-Ok.version,
        c.in-Ok.object,
        state c.begin.new.keeper,
        h.2,
        rw c.for_version-rules.ensures at (c.keep_lines.ensures),
      );
    }

pub returns-in-Err : goal.returns-in-Err
returns-in-Err g c =
    let h = c.in-Err.ensures.err in
    let errors = c.begin.new.errors in
    record {
      cut = h.0;
      between = g.E.Sink.contents errors;
      failed = g.E.Sink.has_failed errors;
      held_back = g.E.Sink.holds_back errors;
      reports = h.1;
      ended = inl (c.in-Err.fault, refl, c.report_at.ensures, h.2);
    }
