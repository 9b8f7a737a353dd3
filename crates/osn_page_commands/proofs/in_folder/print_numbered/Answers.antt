use Rattle.std.proofs.Common.{refl}
use Rattle.osn_lines.specs.Streams.{input_of, output_of}
use Rattle.osn_page_commands.proofs.EditionLemmas.{on_edition, on_no_edition}
use Rattle.osn_core.specs.Edition.{edition_model}
use Rattle.osn_page_commands.specs.Page.{PrintsAsked}
use Rattle.osn_page_commands.proofs.in_folder.print_numbered.Goals as goal

pub returns-in-Ok : goal.returns-in-Ok
returns-in-Ok g c =
    let read = input_of g.R.Source.remaining g.R.Source.has_failed c.args.input.now
    c.print_asked.new.input in
    let wrote = output_of g.W.Sink.contents g.W.Sink.has_failed g.W.Sink.holds_back
    c.args.output.now c.print_asked.new.output in
    let errors = output_of g.E.Sink.contents g.E.Sink.has_failed g.E.Sink.holds_back
    c.args.errors.now c.print_asked.new.errors in
    on_edition c.args.number c.args.object
    (λ edition. PrintsAsked edition c.args.path.now c.args.word.now c.args.date.now
    c.args.topic.now read wrote errors
    c.print_asked.result)
    wrote errors c.print_asked.result (edition_model c.in-Ok.edition) c.in-Ok.ensures.ok
    c.print_asked.ensures

pub returns-in-Err : goal.returns-in-Err
returns-in-Err g c =
    let read = input_of g.R.Source.remaining g.R.Source.has_failed c.args.input.now
    c.args.input.now in
    let wrote = output_of g.W.Sink.contents g.W.Sink.has_failed g.W.Sink.holds_back
    c.args.output.now c.args.output.now in
    let errors = output_of g.E.Sink.contents g.E.Sink.has_failed g.E.Sink.holds_back
    c.args.errors.now c.report_edition_fault.new.errors in
    on_no_edition c.args.number c.args.object
    (λ edition. PrintsAsked edition c.args.path.now c.args.word.now c.args.date.now
    c.args.topic.now read wrote errors
    c.report_edition_fault.result)
    wrote errors c.report_edition_fault.result c.in-Err.fault c.in-Err.ensures.err refl
    c.report_edition_fault.ensures
