use Rattle.std.proofs.Common.{refl}
use Rattle.osn_lines.specs.Streams.{input_of, output_of}
use Rattle.osn_page_commands.proofs.EditionLemmas.{on_edition, on_no_edition}
use Rattle.osn_core.specs.Edition.{edition_model}
use Rattle.osn_page_commands.specs.Letters.{WritesLetters, settings_model}
use Rattle.osn_page_commands.proofs.letters.write_numbered.Goals as goal

pub returns-in-Ok : goal.returns-in-Ok
returns-in-Ok g c =
    let new = c.write_placed.new in
    let read = input_of g.R.Source.remaining g.R.Source.has_failed c.args.input.now new.input in
    let wrote = output_of g.W.Sink.contents g.W.Sink.has_failed g.W.Sink.holds_back
    c.args.output.now new.output in
    let errors = output_of g.E.Sink.contents g.E.Sink.has_failed g.E.Sink.holds_back
    c.args.errors.now new.errors in
    on_edition c.args.rules.edition c.args.object
    (λ edition. WritesLetters c.args.path.now edition (settings_model c.args.settings) c.args.rules
    read wrote errors c.write_placed.result)
    wrote errors c.write_placed.result (edition_model c.in-Ok.edition) c.in-Ok.ensures.ok
    c.write_placed.ensures

pub returns-in-Err : goal.returns-in-Err
returns-in-Err g c =
    let read = input_of g.R.Source.remaining g.R.Source.has_failed c.args.input.now
    c.args.input.now in
    let wrote = output_of g.W.Sink.contents g.W.Sink.has_failed g.W.Sink.holds_back
    c.args.output.now c.args.output.now in
    let errors = output_of g.E.Sink.contents g.E.Sink.has_failed g.E.Sink.holds_back
    c.args.errors.now c.report_edition_fault.new.errors in
    on_no_edition c.args.rules.edition c.args.object
    (λ edition. WritesLetters c.args.path.now edition (settings_model c.args.settings) c.args.rules
    read wrote errors c.report_edition_fault.result)
    wrote errors c.report_edition_fault.result c.in-Err.fault c.in-Err.ensures.err refl
    c.report_edition_fault.ensures
