use Rattle.std.proofs.Common.{refl}
use Rattle.osn_lines.specs.Streams.{output_of}
use Rattle.osn_page_commands.specs.PageRequest.{conversion_of_words}
use Rattle.osn_page_commands.proofs.ConversionLemmas.{conversion_unread}
use Rattle.osn_page_commands.proofs.conversion.convert_command.Goals as goal

pub returns-in-Err : goal.returns-in-Err
returns-in-Err g c =
    conversion_unread c.args.calendar.now c.args.date.now
    (output_of g.W.Sink.contents g.W.Sink.has_failed g.W.Sink.holds_back c.args.output.now
    c.args.output.now)
    (output_of g.E.Sink.contents g.E.Sink.has_failed g.E.Sink.holds_back c.args.errors.now
    c.report_no_memory.new.errors)
    c.report_no_memory.result (conversion_of_words c.args.calendar.now c.args.date.now) refl refl
    c.report_no_memory.ensures
