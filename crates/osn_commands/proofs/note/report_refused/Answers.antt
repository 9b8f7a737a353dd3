use Rattle.osn_lines.specs.Streams.{output_of}
use Rattle.osn_commands.proofs.NoteLemmas.{reports_other}
use Rattle.osn_commands.specs.PlanWords.{refused_edits_line}
use Rattle.osn_commands.proofs.note.report_refused.Goals as goal

pub returns-in_default : goal.returns-in_default
returns-in_default g c =
    reports_other c.args.refusal
    (output_of g.E.Sink.contents g.E.Sink.has_failed g.E.Sink.holds_back c.args.errors.now
    c.report_line.new.errors) c.report_line.result c.in_default.not-NoMemory
    (c.report_line.ensures (refused_edits_line c.args.refusal) c.refused_edits_line.ensures)
