use Rattle.std.proofs.Common.{refl}
use Rattle.osn_days.specs.Rules.{newest_rules}
use Rattle.osn_lines.specs.Streams.{output_of}
use Rattle.osn_page_commands.specs.Page.{territory_refusal_line}
use Rattle.osn_register_text.specs.WrittenText.{text_of_code}
use Rattle.osn_commands.proofs.TextLemmas.{territory_printed, territory_refused}
use Rattle.osn_commands.proofs.text.print_territory.Goals as goal

pub returns-in-Ok : goal.returns-in-Ok
returns-in-Ok g c =
    let territories = c.args.register.now.territories in
    let code = c.args.code.now in
    territory_printed c.args.edition territories c.args.path.now code
    (output_of g.W.Sink.contents g.W.Sink.has_failed g.W.Sink.holds_back c.args.output.now
    c.print.new.output)
    (output_of g.E.Sink.contents g.E.Sink.has_failed g.E.Sink.holds_back c.args.errors.now
    c.print.new.errors)
    c.print.result c.in-Ok.ensures.test
    (c.print.ensures (text_of_code newest_rules c.args.edition code territories)
    c.write_territory.ensures.text)

pub returns-in-Err : goal.returns-in-Err
returns-in-Err g c =
    let path = c.args.path.now in
    let code = c.args.code.now in
    territory_refused c.args.edition c.args.register.now.territories path code
    (output_of g.W.Sink.contents g.W.Sink.has_failed g.W.Sink.holds_back c.args.output.now
    c.args.output.now)
    (output_of g.E.Sink.contents g.E.Sink.has_failed g.E.Sink.holds_back c.args.errors.now
    c.report_line.new.errors)
    c.report_line.result c.in-Err.refusal c.in-Err.ensures.test refl
    (c.report_line.ensures (territory_refusal_line path code c.in-Err.refusal)
    c.territory_refusal_line-line.ensures)
