use Rattle.osn_core.specs.Edition.{edition_model}
use Rattle.osn_lines.specs.Streams.{input_of, output_of}
use Rattle.osn_page_commands.proofs.PageLemmas.{asked_dates, asked_page}
use Rattle.osn_page_commands.proofs.in_folder.print_asked.Goals as goal

pub returns-in-Dates : goal.returns-in-Dates
returns-in-Dates g c =
    asked_dates (edition_model c.args.edition.now) c.args.path.now c.args.word.now c.args.date.now
    (input_of g.R.Source.remaining g.R.Source.has_failed c.args.input.now
    c.print_dates.new.input)
    (output_of g.W.Sink.contents g.W.Sink.has_failed g.W.Sink.holds_back c.args.output.now
    c.print_dates.new.output)
    (output_of g.E.Sink.contents g.E.Sink.has_failed g.E.Sink.holds_back c.args.errors.now
    c.print_dates.new.errors)
    c.print_dates.result c.args.topic.now _ c.in-Dates.is c.print_dates.ensures

pub returns-in_default : goal.returns-in_default
returns-in_default g c =
    asked_page (edition_model c.args.edition.now) c.args.path.now c.args.word.now c.args.date.now
    (input_of g.R.Source.remaining g.R.Source.has_failed c.args.input.now c.args.input.now)
    (output_of g.W.Sink.contents g.W.Sink.has_failed g.W.Sink.holds_back c.args.output.now
    c.print_page.new.output)
    (output_of g.E.Sink.contents g.E.Sink.has_failed g.E.Sink.holds_back c.args.errors.now
    c.print_page.new.errors)
    c.print_page.result c.args.topic.now c.in_default.not-Dates c.print_page.ensures
