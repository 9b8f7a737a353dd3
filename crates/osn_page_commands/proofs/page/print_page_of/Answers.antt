use Rattle.std.proofs.Common.{subst}
use Rattle.osn_core.specs.Edition.{edition_model}
use Rattle.osn_lines.specs.Streams.{output_of}
use Rattle.osn_page_commands.specs.Page.{PrintsTopicText}
use Rattle.osn_page_commands.proofs.PageLemmas.{page_made}
use Rattle.osn_page_commands.proofs.page.print_page_of.Goals as goal

pub returns-in-Ok : goal.returns-in-Ok
returns-in-Ok g c =
    let s = edition_model c.args.edition.now in
    let wrote = output_of g.W.Sink.contents g.W.Sink.has_failed g.W.Sink.holds_back
    c.args.output.now c.print_text_of.new.output in
    let errors = output_of g.E.Sink.contents g.E.Sink.has_failed g.E.Sink.holds_back
    c.args.errors.now c.print_text_of.new.errors in
    page_made s c.args.path.now c.args.code.now c.args.date.now c.args.topic.now wrote errors
    c.page_status.result
    c.print_text_of.result c.in-Ok.field-0.lacks_day c.in-Ok.ensures.lawful c.in-Ok.ensures.lacks
    (subst (λ text. PrintsTopicText c.args.topic.now text wrote errors c.print_text_of.result)
    c.in-Ok.ensures.text c.print_text_of.ensures)
    c.page_status.ensures
