use Rattle.std.proofs.Common.{◌∙◌, ap, refl, sym}
use Rattle.osn_core.specs.Edition.{edition_model}
use Rattle.osn_lines.specs.Streams.{output_of}
use Rattle.osn_page_commands.specs.Place.{place_named}
use Rattle.osn_page_commands.proofs.PageLemmas.{page_of_one, place_unknown}
use Rattle.osn_page_commands.proofs.page.print_page_named.Goals as goal

pub returns-in-Ok-One : goal.returns-in-Ok-One
returns-in-Ok-One g c =
    let s = edition_model c.args.edition.now in
    page_of_one s c.args.path.now c.args.word.now c.args.date.now c.args.topic.now
    (place_named c.args.word.now s.territories) c.in-Ok-One.code c.as_str-code.result.now
    (output_of g.W.Sink.contents g.W.Sink.has_failed g.W.Sink.holds_back c.args.output.now
    c.print_page_of.new.output)
    (output_of g.E.Sink.contents g.E.Sink.has_failed g.E.Sink.holds_back c.args.errors.now
    c.print_page_of.new.errors)
    c.print_page_of.result (
    sym (ap (place_named c.args.word.now) c.register-register.ensures)
    ∙ (sym c.in-Ok-One.ensures ∙ c.in-Ok-One.field-0-is)
    ) c.as_str-code.ensures.value c.print_page_of.ensures

pub returns-in-Err : goal.returns-in-Err
returns-in-Err g c =
    let s = edition_model c.args.edition.now in
    place_unknown s c.args.path.now c.args.word.now c.args.date.now c.args.topic.now
    (place_named c.args.word.now s.territories)
    (output_of g.W.Sink.contents g.W.Sink.has_failed g.W.Sink.holds_back c.args.output.now
    c.args.output.now)
    (output_of g.E.Sink.contents g.E.Sink.has_failed g.E.Sink.holds_back c.args.errors.now
    c.report_no_memory.new.errors)
    c.report_no_memory.result refl c.report_no_memory.ensures
