use Rattle.std.proofs.Common.{◌∙◌, ap, codes, refl}
use Rattle.osn_letters.specs.Tally.{tally_text}
use Rattle.osn_lines.specs.Streams.{output_of}
use Rattle.osn_page_commands.specs.Letters.{status_by}
use Rattle.osn_page_commands.proofs.LettersLemmas.{reports_tally, reports_no_tally}
use Rattle.osn_page_commands.proofs.letters.end_whole.Goals as goal

pub returns-then-rules : goal.returns-then-rules
returns-then-rules g c =
    let text = tally_text (codes "oldstyle: letters: ") c.args.tally.now in
    let same = c.status_by-status.ensures
    ∙ ap (status_by c.args.rules.strict) c.has_remarks.ensures in
    let errors = output_of g.E.Sink.contents g.E.Sink.has_failed g.E.Sink.holds_back
    c.args.errors.now c.report_line.new.errors in
    reports_tally c.args.rules.summary text errors _ _ c.report_line.result c.if-rules.true same
    (c.report_line.ensures text c.text.ensures)

pub returns-else-rules : goal.returns-else-rules
returns-else-rules g c =
    let text = tally_text (codes "oldstyle: letters: ") c.args.tally.now in
    let same = c.status_by-status.ensures
    ∙ ap (status_by c.args.rules.strict) c.has_remarks.ensures in
    let errors = output_of g.E.Sink.contents g.E.Sink.has_failed g.E.Sink.holds_back
    c.args.errors.now c.args.errors.now in
    reports_no_tally c.args.rules.summary text errors _ c.status_by-status.result c.if-rules.false
    same (refl, refl)
