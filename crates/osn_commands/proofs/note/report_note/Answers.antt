use Rattle.std.proofs.Common.{subst}
use Rattle.osn_lines.specs.Streams.{output_of}
use Rattle.osn_commands.specs.Note.{IsNoteOf}
use Rattle.osn_commands.proofs.NoteLemmas.{reports_refused}
use Rattle.osn_commands.proofs.note.report_note.Goals as goal

pub returns-in-Refused : goal.returns-in-Refused
returns-in-Refused g c = λ target found.
    reports_refused c.args.path.now c.in-Refused.refusal target
    (output_of g.E.Sink.contents g.E.Sink.has_failed g.E.Sink.holds_back c.args.errors.now
    c.report_refused.new.errors) c.report_refused.result
    (subst (IsNoteOf target) c.in-Refused.is found) c.report_refused.ensures
