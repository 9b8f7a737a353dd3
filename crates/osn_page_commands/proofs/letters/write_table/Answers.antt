use Rattle.std.proofs.Common.{sym, inl, inr}
use Rattle.osn_core.specs.Edition.{edition_model}
use Rattle.osn_lines.specs.Streams.{input_of, output_of}
use Rattle.osn_page_commands.specs.Letters.{settings_model}
use Rattle.osn_page_commands.proofs.LettersLemmas.{ended_table, whole_table}
use Rattle.osn_page_commands.proofs.letters.write_table.Goals as goal

pub returns-in-Ok : goal.returns-in-Ok
returns-in-Ok g c =
    let new = c.write_letters.new in
    inl (whole_table (edition_model c.args.edition.now) (settings_model c.args.settings)
    c.args.rules _ _ _
    (input_of g.R.Source.remaining g.R.Source.has_failed c.args.input.now new.source)
    (output_of g.W.Sink.contents g.W.Sink.has_failed g.W.Sink.holds_back c.args.output.now
    new.sink)
    (output_of g.E.Sink.contents g.E.Sink.has_failed g.E.Sink.holds_back c.args.errors.now
    c.end_whole.new.errors)
    c.end_whole.result (sym c.register-register.ensures)
    (sym c.number-number.ensures) c.end_whole.ensures
    c.in-Ok.ensures.whole c.in-Ok.ensures.tally)

pub returns-in-Err : goal.returns-in-Err
returns-in-Err g c =
    let ended = c.in-Err.ensures in
    let new = c.write_letters.new in
    let wrote =
    ended_table (edition_model c.args.edition.now) (settings_model c.args.settings) _ _
    (input_of g.R.Source.remaining g.R.Source.has_failed c.args.input.now new.source)
    (output_of g.W.Sink.contents g.W.Sink.has_failed g.W.Sink.holds_back c.args.output.now
    new.sink)
    c.in-Err.fault (sym c.register-register.ensures)
    (sym c.number-number.ensures) ended.early
    (ended.source.0, ended.source.1, ended.sink) in
    inr (c.in-Err.fault, c.report_table.ensures, wrote.0, wrote.1)
